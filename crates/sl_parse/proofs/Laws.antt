-- What is read is the longest front of each name, a list of tokens has one tree at most, and the readers do what the rules say. What is
-- read within the limit is read without it too.
use Rattle.std.proofs.Common.{◌≡◌, ℕ, suc, List, [], length, refl, inl, inr, true, false, arith}
use Rattle.std.specs.Prelude.{Some, None}
use Rattle.sl_grammar.specs.Phrase.{IsRead}
use Rattle.sl_grammar.specs.Law.{Word, Law, Seen, Shape, found_as}
use Rattle.sl_grammar.specs.Grammar.{Form, sets_of, ok, is, spells_form}
use Rattle.sl_grammar.specs.Rules.{good}
use Rattle.sl_grammar.proofs.Rules.{all_laws, rule_is, word as rule_word, shape as rule_shape}
use Rattle.sl_grammar.proofs.Grammar.{form_shape as shape_of_form, form_law as law_of_form}
use Rattle.sl_tree.specs.Sorts.{Spelled, sort, example}
use Rattle.sl_parse.specs.Names.{Name, Type_term, Expression, Block, Library, Path, Import_name, Import_step, Import_of, Pair, Note_of, Notes, Type_params, Param_of, Params, Parents, Enum_names, Member, Members, Braced, Declared, Decl_of, Item, Package, File_of, rule_of}
use Rattle.sl_parse.specs.Values.{T_of, tree_of}
use Rattle.sl_parse.specs.Grammar.{Bound, limit_of, grammar, sets_at, own_at, room, tree, spells, spells_tree, by_hand, by_hand_at, read}
use Rattle.sl_parse.specs.Told.{reads}
use Rattle.sl_parse.proofs.Good.{rule_good}
use Rattle.sl_parse.proofs.Own.{own}
use Rattle.sl_parse.proofs.Spans.{Said}
use Rattle.sl_parse.proofs.Seen.{seen}
use Rattle.sl_parse.proofs.Wider.{wide_pair, wide_note, wide_notes, wide_param, wide_params, wide_parents, wide_member, wide_members, wide_braced, wide_declared, wide_decl, wide_file}

-- each name spells what its rule does, and each rule passes the test
seen_in : (b : Bound) (n : Name) → grammar.valid n ≡ true → grammar.own n ≡ false → Seen (Said (limit_of b) (rule_of n)) (tree n) (spells (limit_of b) n)
seen_in b n v o = seen (limit_of b) n o

check : (n : Name) → grammar.valid n ≡ true → grammar.own n ≡ false → good sort example grammar n ≡ true
check n v o = rule_good n o

pub law : (size : ℕ) (b : Bound) (n : Name) → Law (spells (limit_of b) n) (read b n) (is sort (sets_at n).after) size
unfolding read
law size b n = all_laws sort example grammar T_of room tree (spells (limit_of b)) (by_hand (limit_of b)) (seen_in b) check (own b) size n refl

-- what is found is the longest front with which a tree begins, and a tree exactly where that front is one
pub reads_tree : (b : Bound) (n : Name) (ts : List Spelled) → IsRead (spells (limit_of b) n) ts (read b n ts)
reads_tree b n ts = (law (suc (length ts)) b n).reads ts (omega arith)

-- tokens have one tree at most
pub one_tree : (b : Bound) (n : Name) (v w : T_of n) (ts : List Spelled) → spells (limit_of b) n v ts → spells (limit_of b) n w ts → v ≡ w
one_tree b n v w ts h g = (law (suc (length ts)) b n).one v w ts (omega arith) h g

-- a name is read as its rule says, or by hand
pub rule_read : (b : Bound) (n : Name) → own_at n ≡ false → (ts : List Spelled) → found_as (tree n) (reads b (rule_of n) ts) ≡ read b n ts
unfolding read reads
rule_read b n o ts = rule_is sort example grammar T_of room tree (spells (limit_of b)) (by_hand (limit_of b)) (seen_in b) check (own b) n refl o ts

pub own_read : (b : Bound) (n : Name) → own_at n ≡ true → (ts : List Spelled) → read b n ts ≡ by_hand_at (limit_of b) n ts
unfolding read
own_read b Type_term o ts = refl
own_read b Expression o ts = refl
own_read b Block o ts = refl
own_read b Library o ts = refl
own_read b other o ts = absurd cc

-- any form of the grammar that passes the test

word : (b : Bound) (n : Name) → Word (spells (limit_of b) n)
word b n = rule_word sort example grammar T_of room tree (spells (limit_of b)) (by_hand (limit_of b)) (seen_in b) check (own b) n refl

shape : (b : Bound) (n : Name) → Shape (spells (limit_of b) n) (is sort (sets_at n).first) (sets_at n).blank
shape b n = rule_shape sort example grammar T_of room tree (spells (limit_of b)) (by_hand (limit_of b)) (seen_in b) check (own b) n refl

abbrev pub Fine : Form Name → Type 0
Fine g = ok sort example sets_at (λ n. true) (λ n. true) g ≡ true

pub form_law : (size : ℕ) (b : Bound) (g : Form Name) → Fine g → Law (spells_form sort T_of room (spells (limit_of b)) g) (reads b g) (is sort (sets_of sets_at g).after) size
unfolding reads
form_law size b g fine =
    law_of_form sort example T_of room (spells (limit_of b)) sets_at (λ n. true) (λ n v. word b n) (λ n v. shape b n)
    g (λ n. true) (read b) (read b) size size (omega arith) (λ n v. v) fine (λ n v. law size b n) (λ n v. law size b n)

pub form_shape : (b : Bound) (g : Form Name) → Fine g → Shape (spells_form sort T_of room (spells (limit_of b)) g) (is sort (sets_of sets_at g).first) (sets_of sets_at g).blank
form_shape b g fine = shape_of_form sort example T_of room (spells (limit_of b)) sets_at (λ n. true) (λ n v. word b n) (λ n. true) (λ n v. shape b n) g fine

-- without the limit

wider_tree : (n : Name) (x : tree_of n) (ts : List Spelled) → spells_tree (Some 64) n x ts → spells_tree None n x ts
wider_tree Type_term x ts w = (w.0, w.1, tt)
wider_tree Expression x ts w = (w.0, w.1, tt)
wider_tree Block x ts w = (w.0, w.1, tt)
wider_tree Library x ts w = w
wider_tree Path x ts w = w
wider_tree Import_name x ts w = w
wider_tree Import_step x ts w = w
wider_tree Import_of x ts w = w
wider_tree Pair x ts w = wide_pair (Some 64) x ts w
wider_tree Note_of x ts w = wide_note (Some 64) x ts w
wider_tree Notes x ts w = wide_notes (Some 64) x ts w
wider_tree Type_params x ts w = w
wider_tree Param_of x ts w = wide_param (Some 64) x ts w
wider_tree Params x ts w = wide_params (Some 64) x ts w
wider_tree Parents x ts w = wide_parents (Some 64) x ts w
wider_tree Enum_names x ts w = w
wider_tree (Member globals) x ts w = wide_member (Some 64) globals x ts w
wider_tree (Members globals) x ts (us, q, w, hq, e) = (us, q, wide_members (Some 64) globals x us w, hq, e)
wider_tree (Braced globals) x ts w = wide_braced (Some 64) globals x ts w
wider_tree Declared x ts w = wide_declared (Some 64) x ts w
wider_tree Decl_of x ts w = wide_decl (Some 64) x ts w
wider_tree Item (inl x) ts w = w
wider_tree Item (inr d) ts w = wide_decl (Some 64) d ts w
wider_tree Package x ts w = w
wider_tree File_of x ts w = wide_file (Some 64) [] x ts w

-- what is read within the limit is spelled without it
pub wider : (n : Name) (v : T_of n) (ts : List Spelled) → spells (Some 64) n v ts → spells None n v ts
wider n v ts w = (wider_tree n v.0 ts w.0, w.1)
