-- Declarations, as the code reads them.
use Rattle.std.proofs.Common.{◌≡◌, ℕ, List, [], ◌∷◌, ◌++◌, refl, sym, ap, ◌∙◌, inl, inr, ◌⊎◌, Bool, true, false}
use Rattle.std.specs.Prelude.{Option, None, Some, eqb}
use Rattle.std.proofs.lemmas.Bool.{eq-eqb, ne_eqb}
use Rattle.sl_text.specs.declared.place.Span.{Span}
use Rattle.sl_text.specs.declared.token.Token.{Token as TokenOf}
use Rattle.sl_text.specs.declared.fault.Fault.{Fault}
use Rattle.sl_grammar.specs.Phrase.{Done, read_token}
use Rattle.sl_grammar.specs.Law.{found_as}
use Rattle.sl_grammar.specs.Grammar.{Form, Ref, Then, Either, Nothing, Val, is, has, disjoint, sets_of}
use Rattle.sl_grammar.proofs.Growing.{found_as_as}
use Rattle.sl_tree.specs.Sorts.{Spelled, sort, example, sort_of, sort_of_mark, sort_of_word, sort_of_name, sort_of_operator, sort_of_prefixed, sort_of_separator, left_parenthesis, left_bracket, left_brace, quoted, symbol, class_word, trait_word, object_word, extends_word}
use Rattle.sl_tree.specs.WellShaped.{cover, names}
use Rattle.sl_tree.specs.Declarations.{decl}
use Rattle.sl_tree.specs.declared.tree.Lexeme.{Lexeme}
use Rattle.sl_tree.specs.declared.tree.TypeTerm.{TypeTerm}
use Rattle.sl_tree.specs.declared.tree.Note.{Note}
use Rattle.sl_tree.specs.declared.tree.Param.{Param}
use Rattle.sl_tree.specs.declared.tree.Decl.{Decl, roll-Decl}
use Rattle.sl_tree.specs.declared.tree.DeclKind.{DeclKind}
use Rattle.sl_tree.specs.declared.tree.DeclKind.TheVariants as decl_kind
use Rattle.sl_parse_expr.specs.Grammar.{after_kinds}
use Rattle.sl_parse_expr.specs.Told.{head_sort}
use Rattle.sl_parse_expr.proofs.Telling.{both_go, done_as}
use Rattle.sl_parse.specs.Names.{Name, Notes, Type_params, Params, Parents, Enum_names, Members, Braced, Declared, Decl_of, T, perhaps, extends_form, class_tail, trait_tail, object_braces, object_tail, class_form, trait_form, object_form, rule_of}
use Rattle.sl_parse.specs.Values.{T_of, tree_of, extends_in, class_from, trait_from, object_from}
use Rattle.sl_parse.specs.Grammar.{Bound, sets_at}
use Rattle.sl_parse.specs.Told.{Family, found_tree, reads, IsDone, Faults}
use Rattle.sl_parse.proofs.Laws.{Fine}
use Rattle.sl_parse.proofs.Telling.{fault_as, fault_of, then_reads, left_reads, right_reads, token_reads, tree_in, tree_rule, covered_by, form_done, tree_done, done_then, done_token, done_left, done_right, done_none, done_rule, fault_then, fault_then_alone, fault_then_second, fault_then_token, fault_left, fault_right, fault_ref, fault_rule, same_ref}

-- one of two sorts comes, or none of them

pub one_of_two : (p q peeked : ℕ) (ts : List Spelled) → peeked ≡ head_sort ts → ((peeked ≡ p → ⊥) × (peeked ≡ q)) ⊎ (peeked ≡ p) → has (p ∷ q ∷ []) (head_sort ts) ≡ true
one_of_two p q peeked ts e (inl (n, s)) =
    let a : eqb p (head_sort ts) ≡ false = ne_eqb p (head_sort ts) (λ d. n (e ∙ sym d)) in
    let b : eqb q (head_sort ts) ≡ true = eq-eqb q (head_sort ts) (sym s ∙ e) in
    rw (a, b)
one_of_two p q peeked ts e (inr s) = let a : eqb p (head_sort ts) ≡ true = eq-eqb p (head_sort ts) (sym s ∙ e) in rw (a)

pub none_of_two : (p q peeked : ℕ) (ts : List Spelled) → peeked ≡ head_sort ts → (peeked ≡ p → ⊥) → (peeked ≡ q → ⊥) → has (p ∷ q ∷ []) (head_sort ts) ≡ false
none_of_two p q peeked ts e s t =
    let a : eqb p (head_sort ts) ≡ false = ne_eqb p (head_sort ts) (λ d. s (e ∙ sym d)) in
    let b : eqb q (head_sort ts) ≡ false = ne_eqb q (head_sort ts) (λ d. t (e ∙ sym d)) in
    rw (a, b)

-- what a test of the sort says
pub has_peeked : (ks : List ℕ) (peeked : ℕ) (ts : List Spelled) (test answer : Bool) → peeked ≡ head_sort ts → test ≡ has ks peeked → test ≡ answer → has ks (head_sort ts) ≡ answer
has_peeked ks peeked ts test answer e h s = ap (has ks) (sym e) ∙ (sym h ∙ s)

-- what has a name, and a form behind it; a token, and a form behind it

done_on : (n : Name) (q : Form Name) (ts : List Spelled) (x : tree_of n) (rest : List Spelled) (y : Val sort T_of q) (left : List Spelled)
    → IsDone (λ b. found_tree b n ts) x rest → IsDone (λ b. reads b q rest) y left → (s : Option Span) × IsDone (λ b. reads b (Then (Ref n) q) ts) ((x, s), y) left
done_on n q ts x rest y left d e = let w = tree_done n ts x rest d in (w.0, done_then (Ref n) q ts (x, w.0) rest y left w.1 e)

module _ (file : ℕ) (bytes : List ℕ) (tokens : List TokenOf) where
  fault_here : (n : Name) (q : Form Name) (ts : List Spelled) (e : Fault) → Fine q → disjoint after_kinds (sets_of sets_at q).first ≡ true
      → Faults file bytes tokens (λ b. found_tree b n ts) e → Faults file bytes tokens (λ b. reads b (Then (Ref n) q) ts) e
  fault_here n q ts e fine d f = fault_then file bytes tokens (Ref n) q ts e fine d (fault_ref file bytes tokens n ts e f)

  fault_past : (n : Name) (q : Form Name) (ts : List Spelled) (x : tree_of n) (rest : List Spelled) (e : Fault) → IsDone (λ b. found_tree b n ts) x rest
      → Faults file bytes tokens (λ b. reads b q rest) e → Faults file bytes tokens (λ b. reads b (Then (Ref n) q) ts) e
  fault_past n q ts x rest e d f = let w = tree_done n ts x rest d in fault_then_second file bytes tokens (Ref n) q ts (x, w.0) rest e w.1 f

  fault_past_token : (ks : List ℕ) (q : Form Name) (ts : List Spelled) (k : Spelled) (rest : List Spelled) (e : Fault) → read_token (is sort ks) ts ≡ Done k rest
      → Faults file bytes tokens (λ b. reads b q rest) e → Faults file bytes tokens (λ b. reads b (Then (T ks) q) ts) e
  fault_past_token ks q ts k rest e d f = fault_then_second file bytes tokens (T ks) q ts k rest e (done_token ks ts k rest d) f

-- what is found behind the name of a class or of integers, of a trait, and of an object or an enum

abbrev pub class_found : Spelled → List Spelled → Family DeclKind
class_found k ts b = found_as (class_from k) (reads b (perhaps class_tail) ts)

abbrev pub trait_found : Spelled → List Spelled → Family DeclKind
trait_found k ts b = found_as (trait_from k) (reads b trait_tail ts)

abbrev pub object_found : Spelled → List Spelled → Family DeclKind
object_found k ts b = found_as (object_from k) (reads b object_tail ts)

-- parents and members, and parameters before them

abbrev from_parents : Form Name
from_parents = Then (Ref Parents) (Ref (Braced false))

abbrev from_params : Form Name
from_params = Then (Ref Params) from_parents

-- a class, or integers

abbrev class_kinds : List ℕ
class_kinds = left_bracket ∷ left_parenthesis ∷ []

pub ints_done : (k : Spelled) (name : List ℕ) (ts : List Spelled) → name ≡ k.text → has class_kinds (head_sort ts) ≡ false
    → IsDone (class_found k ts) (decl_kind.Ints name) ts
ints_done k name ts same h b = done_as (class_from k) (reads b (perhaps class_tail) ts) (inr tt) ts (done_none class_tail ts h b) ∙ ap (λ n. Done (decl_kind.Ints n) ts) (sym same)

pub class_done : (k : Spelled) (name : List ℕ) (ts us vs ws rest : List Spelled) (types : List (List ℕ)) (params : List Param) (parents : List TypeTerm) (methods : Option (List Decl))
    → name ≡ k.text → has class_kinds (head_sort ts) ≡ true → IsDone (λ b. found_tree b Type_params ts) types us → IsDone (λ b. found_tree b Params us) params vs
    → IsDone (λ b. found_tree b Parents vs) parents ws → IsDone (λ b. found_tree b (Braced false) ws) methods rest
    → IsDone (class_found k ts) (decl_kind.Class name types params parents methods) rest
class_done k name ts us vs ws rest types params parents methods same h d1 d2 d3 d4 b =
    let m = tree_done (Braced false) ws methods rest d4 in
    let s = done_on Parents (Ref (Braced false)) vs parents ws (methods, m.0) rest d3 m.1 in
    let p = done_on Params from_parents us params vs ((parents, s.0), (methods, m.0)) rest d2 s.1 in
    let t = done_on Type_params from_params ts types us ((params, p.0), ((parents, s.0), (methods, m.0))) rest d1 p.1 in
    let v : Val sort T_of class_tail = ((types, t.0), ((params, p.0), ((parents, s.0), (methods, m.0)))) in
    done_as (class_from k) (reads b (perhaps class_tail) ts) (inl v) rest (done_left class_tail Nothing ts v rest refl h t.1 b)
    ∙ ap (λ n. Done (decl_kind.Class n types params parents methods) rest) (sym same)

-- its parts at fault; type parameters are read the same in both languages
module _ (file : ℕ) (bytes : List ℕ) (tokens : List TokenOf) (k : Spelled) (ts : List Spelled) (e : Fault) (h : has class_kinds (head_sort ts) ≡ true) where
  class_fault : Faults file bytes tokens (λ b. reads b class_tail ts) e → Faults file bytes tokens (class_found k ts) e
  class_fault f = fault_as file bytes tokens (class_from k) (λ b. reads b (perhaps class_tail) ts) e (fault_left file bytes tokens class_tail Nothing ts e refl h f)

  pub class_types : Faults file bytes tokens (λ b. found_tree b Type_params ts) e → Faults file bytes tokens (class_found k ts) e
  class_types f = class_fault (fault_then_alone file bytes tokens (Ref Type_params) from_params ts e (same_ref Type_params (λ v us w. w) ts) (fault_ref file bytes tokens Type_params ts e f))

  module _ (types : List (List ℕ)) (us : List Spelled) (d1 : IsDone (λ b. found_tree b Type_params ts) types us) where
    pub class_params : Faults file bytes tokens (λ b. found_tree b Params us) e → Faults file bytes tokens (class_found k ts) e
    class_params f = class_fault (fault_past file bytes tokens Type_params from_params ts types us e d1 (fault_here file bytes tokens Params from_parents us e refl refl f))

    module _ (params : List Param) (vs : List Spelled) (d2 : IsDone (λ b. found_tree b Params us) params vs) where
      past : Faults file bytes tokens (λ b. reads b from_parents vs) e → Faults file bytes tokens (class_found k ts) e
      past f = class_fault (fault_past file bytes tokens Type_params from_params ts types us e d1 (fault_past file bytes tokens Params from_parents us params vs e d2 f))

      pub class_parents : Faults file bytes tokens (λ b. found_tree b Parents vs) e → Faults file bytes tokens (class_found k ts) e
      class_parents f = past (fault_here file bytes tokens Parents (Ref (Braced false)) vs e refl refl f)

      pub class_methods : (parents : List TypeTerm) (ws : List Spelled) → IsDone (λ b. found_tree b Parents vs) parents ws → Faults file bytes tokens (λ b. found_tree b (Braced false) ws) e
          → Faults file bytes tokens (class_found k ts) e
      class_methods parents ws d3 f = past (fault_past file bytes tokens Parents (Ref (Braced false)) vs parents ws e d3 (fault_ref file bytes tokens (Braced false) ws e f))

-- a trait

pub trait_done : (k : Spelled) (name : List ℕ) (ts us vs rest : List Spelled) (types : List (List ℕ)) (parents : List TypeTerm) (methods : Option (List Decl)) → name ≡ k.text
    → IsDone (λ b. found_tree b Type_params ts) types us → IsDone (λ b. found_tree b Parents us) parents vs → IsDone (λ b. found_tree b (Braced false) vs) methods rest
    → IsDone (trait_found k ts) (decl_kind.Trait name types parents methods) rest
trait_done k name ts us vs rest types parents methods same d1 d2 d3 b =
    let m = tree_done (Braced false) vs methods rest d3 in
    let s = done_on Parents (Ref (Braced false)) us parents vs (methods, m.0) rest d2 m.1 in
    let t = done_on Type_params from_parents ts types us ((parents, s.0), (methods, m.0)) rest d1 s.1 in
    done_as (trait_from k) (reads b trait_tail ts) ((types, t.0), ((parents, s.0), (methods, m.0))) rest (t.1 b) ∙ ap (λ n. Done (decl_kind.Trait n types parents methods) rest) (sym same)

module _ (file : ℕ) (bytes : List ℕ) (tokens : List TokenOf) (k : Spelled) (ts : List Spelled) (e : Fault) where
  trait_fault : Faults file bytes tokens (λ b. reads b trait_tail ts) e → Faults file bytes tokens (trait_found k ts) e
  trait_fault f = fault_as file bytes tokens (trait_from k) (λ b. reads b trait_tail ts) e f

  pub trait_types : Faults file bytes tokens (λ b. found_tree b Type_params ts) e → Faults file bytes tokens (trait_found k ts) e
  trait_types f = trait_fault (fault_here file bytes tokens Type_params from_parents ts e refl refl f)

  module _ (types : List (List ℕ)) (us : List Spelled) (d1 : IsDone (λ b. found_tree b Type_params ts) types us) where
    pub trait_parents : Faults file bytes tokens (λ b. found_tree b Parents us) e → Faults file bytes tokens (trait_found k ts) e
    trait_parents f = trait_fault (fault_past file bytes tokens Type_params from_parents ts types us e d1 (fault_here file bytes tokens Parents (Ref (Braced false)) us e refl refl f))

    pub trait_methods : (parents : List TypeTerm) (vs : List Spelled) → IsDone (λ b. found_tree b Parents us) parents vs → Faults file bytes tokens (λ b. found_tree b (Braced false) vs) e
        → Faults file bytes tokens (trait_found k ts) e
    trait_methods parents vs d2 f =
        trait_fault (fault_past file bytes tokens Type_params from_parents ts types us e d1
        (fault_past file bytes tokens Parents (Ref (Braced false)) us parents vs e d2 (fault_ref file bytes tokens (Braced false) vs e f)))

-- an object, or an enum

abbrev extending : Form Name
extending = Then extends_form (Ref (Braced true))

abbrev in_braces : Form Name
in_braces = Either (Ref Enum_names) (Ref (Members true))

extends_fine : Fine extends_form
unfolding example sort_of sort_of_mark sort_of_word sort_of_name sort_of_operator sort_of_prefixed sort_of_separator
extends_fine = refl

-- with parents
pub object_extends : (k : Spelled) (name : List ℕ) (ts us rest : List Spelled) (parents : List TypeTerm) (members : Option (List Decl)) → name ≡ k.text → has (extends_word ∷ []) (head_sort ts) ≡ true
    → IsDone (λ b. found_as extends_in (reads b extends_form ts)) parents us → IsDone (λ b. found_tree b (Braced true) us) members rest
    → IsDone (object_found k ts) (decl_kind.Object name parents members) rest
object_extends k name ts us rest parents members same h d1 d2 b =
    let p = form_done extends_form extends_in extends_fine ts parents us d1 in
    let m = tree_done (Braced true) us members rest d2 in
    let v : Val sort T_of extending = (p.0, (members, m.0)) in
    done_as (object_from k) (reads b object_tail ts) (inl v) rest
    (done_left extending (perhaps object_braces) ts v rest refl h (done_then extends_form (Ref (Braced true)) ts p.0 us (members, m.0) rest p.2 m.1) b)
    ∙ (ap (λ n. Done (decl_kind.Object n (extends_in p.0) members) rest) (sym same) ∙ ap (λ x. Done (decl_kind.Object name x members) rest) p.1)

-- with nothing behind its name
pub object_none : (k : Spelled) (name : List ℕ) (ts : List Spelled) (parents : List TypeTerm) → name ≡ k.text → parents ≡ [] → has (extends_word ∷ []) (head_sort ts) ≡ false
    → has (left_brace ∷ []) (head_sort ts) ≡ false → IsDone (object_found k ts) (decl_kind.Object name parents None) ts
object_none k name ts parents same none h l b =
    done_as (object_from k) (reads b object_tail ts) (inr (inr tt)) ts (done_right extending (perhaps object_braces) ts (inr tt) ts h (done_none object_braces ts l) b)
    ∙ (ap (λ n. Done (decl_kind.Object n [] None) ts) (sym same) ∙ ap (λ x. Done (decl_kind.Object name x None) ts) (sym none))

-- with a brace
module _ (k : Spelled) (ts us : List Spelled) (p : Spelled) (h : has (extends_word ∷ []) (head_sort ts) ≡ false) (l : has (left_brace ∷ []) (head_sort ts) ≡ true)
    (d : read_token (is sort (left_brace ∷ [])) ts ≡ Done p us) where
  braces_done : (v : Val sort T_of in_braces) (rest : List Spelled) → IsDone (λ b. reads b in_braces us) v rest
      → IsDone (object_found k ts) (object_from k (inr (inl (p, v)))) rest
  braces_done v rest w b =
      done_as (object_from k) (reads b object_tail ts) (inr (inl (p, v))) rest
      (done_right extending (perhaps object_braces) ts (inl (p, v)) rest h
      (done_left object_braces Nothing ts (p, v) rest refl l (done_then (T (left_brace ∷ [])) in_braces ts p us v rest (done_token (left_brace ∷ []) ts p us d) w)) b)

  pub enum_done : (name : List ℕ) (all : List Lexeme) (rest : List Spelled) → name ≡ k.text → has (quoted ∷ symbol ∷ []) (head_sort us) ≡ true → IsDone (λ b. found_tree b Enum_names us) all rest
      → IsDone (object_found k ts) (decl_kind.Enum name all) rest
  enum_done name all rest same q w b =
      let m = tree_done Enum_names us all rest w in
      braces_done (inl (all, m.0)) rest (done_left (Ref Enum_names) (Ref (Members true)) us (all, m.0) rest refl q m.1) b ∙ ap (λ n. Done (decl_kind.Enum n all) rest) (sym same)

  pub object_done : (name : List ℕ) (parents : List TypeTerm) (all : List Decl) (rest : List Spelled) → name ≡ k.text → parents ≡ [] → has (quoted ∷ symbol ∷ []) (head_sort us) ≡ false
      → IsDone (λ b. found_tree b (Members true) us) all rest → IsDone (object_found k ts) (decl_kind.Object name parents (Some all)) rest
  object_done name parents all rest same none q w b =
      let m = tree_done (Members true) us all rest w in
      braces_done (inr (all, m.0)) rest (done_right (Ref Enum_names) (Ref (Members true)) us (all, m.0) rest q m.1) b
      ∙ (ap (λ n. Done (decl_kind.Object n [] (Some all)) rest) (sym same) ∙ ap (λ x. Done (decl_kind.Object name x (Some all)) rest) (sym none))

  module _ (file : ℕ) (bytes : List ℕ) (tokens : List TokenOf) (e : Fault) where
    braces_fault : Faults file bytes tokens (λ b. reads b in_braces us) e → Faults file bytes tokens (object_found k ts) e
    braces_fault f =
        fault_as file bytes tokens (object_from k) (λ b. reads b object_tail ts) e
        (fault_right file bytes tokens extending (perhaps object_braces) ts e h
        (fault_left file bytes tokens object_braces Nothing ts e refl l (fault_past_token file bytes tokens (left_brace ∷ []) in_braces ts p us e d f)))

    pub object_names : has (quoted ∷ symbol ∷ []) (head_sort us) ≡ true → Faults file bytes tokens (λ b. found_tree b Enum_names us) e
        → Faults file bytes tokens (object_found k ts) e
    object_names q f = braces_fault (fault_left file bytes tokens (Ref Enum_names) (Ref (Members true)) us e refl q (fault_ref file bytes tokens Enum_names us e f))

    pub object_members : has (quoted ∷ symbol ∷ []) (head_sort us) ≡ false → Faults file bytes tokens (λ b. found_tree b (Members true) us) e
        → Faults file bytes tokens (object_found k ts) e
    object_members q f = braces_fault (fault_right file bytes tokens (Ref Enum_names) (Ref (Members true)) us e q (fault_ref file bytes tokens (Members true) us e f))

-- its parents, or its members behind them, at fault
module _ (file : ℕ) (bytes : List ℕ) (tokens : List TokenOf) (k : Spelled) (ts : List Spelled) (e : Fault) (h : has (extends_word ∷ []) (head_sort ts) ≡ true) where
  extending_fault : Faults file bytes tokens (λ b. reads b extending ts) e → Faults file bytes tokens (object_found k ts) e
  extending_fault f = fault_as file bytes tokens (object_from k) (λ b. reads b object_tail ts) e (fault_left file bytes tokens extending (perhaps object_braces) ts e refl h f)

  pub object_parents : Faults file bytes tokens (λ b. found_as extends_in (reads b extends_form ts)) e → Faults file bytes tokens (object_found k ts) e
  object_parents f = extending_fault (fault_then file bytes tokens extends_form (Ref (Braced true)) ts e refl refl (fault_of file bytes tokens extends_in (λ b. reads b extends_form ts) e f))

  pub object_braced : (parents : List TypeTerm) (us : List Spelled) → IsDone (λ b. found_as extends_in (reads b extends_form ts)) parents us → Faults file bytes tokens (λ b. found_tree b (Braced true) us) e
      → Faults file bytes tokens (object_found k ts) e
  object_braced parents us d f =
      let p = form_done extends_form extends_in extends_fine ts parents us d in
      extending_fault (fault_then_second file bytes tokens extends_form (Ref (Braced true)) ts p.0 us e p.2 (fault_ref file bytes tokens (Braced true) us e f))

-- what a declaration declares: a word, a name, and what stands behind them

abbrev others : Form Name
others = Either trait_form object_form

two_tokens : (b : Bound) (ks js : List ℕ) (q : Form Name) (ts us rest : List Spelled) (w k : Spelled) → read_token (is sort ks) ts ≡ Done w us → read_token (is sort js) us ≡ Done k rest
    → reads b (Then (T ks) (Then (T js) q)) ts ≡ found_as (λ x. (w, (k, x))) (reads b q rest)
two_tokens b ks js q ts us rest w k e d =
    let behind_word : Spelled × Val sort T_of q → Spelled × (Spelled × Val sort T_of q) = λ y. (w, y) in
    let behind_name : Val sort T_of q → Spelled × Val sort T_of q = λ x. (k, x) in
    then_reads b (T ks) (Then (T js) q) ts ∙ (both_go (reads b (T ks)) (reads b (Then (T js) q)) ts w us (token_reads b ks ts ∙ e)
    ∙ (ap (found_as behind_word) (then_reads b (T js) q us ∙ both_go (reads b (T js)) (reads b q) us k rest (token_reads b js us ∙ d))
    ∙ found_as_as behind_word behind_name (reads b q rest)))

module _ (b : Bound) (ts us rest : List Spelled) (w k : Spelled) (n : read_token (is sort names) us ≡ Done k rest) where
  pub class_goes : has (class_word ∷ []) (head_sort ts) ≡ true → read_token (is sort (class_word ∷ [])) ts ≡ Done w us → found_tree b Declared ts ≡ class_found k rest b
  class_goes h d =
      let tail = reads b (perhaps class_tail) rest in
      tree_rule b Declared refl ts ∙ (ap (found_as (tree_in Declared)) (left_reads b class_form others ts refl h ∙ (ap (found_as inl) (two_tokens b (class_word ∷ []) names (perhaps class_tail) ts us rest w k d n)
      ∙ found_as_as inl (λ x. (w, (k, x))) tail)) ∙ found_as_as (tree_in Declared) (λ x. inl (w, (k, x))) tail)

  pub trait_goes : has (class_word ∷ []) (head_sort ts) ≡ false → has (trait_word ∷ []) (head_sort ts) ≡ true → read_token (is sort (trait_word ∷ [])) ts ≡ Done w us
      → found_tree b Declared ts ≡ trait_found k rest b
  trait_goes c h d =
      let tail = reads b trait_tail rest in
      tree_rule b Declared refl ts ∙ (ap (found_as (tree_in Declared)) (right_reads b class_form others ts c ∙ (ap (found_as inr) (left_reads b trait_form object_form ts refl h
      ∙ (ap (found_as inl) (two_tokens b (trait_word ∷ []) names trait_tail ts us rest w k d n) ∙ found_as_as inl (λ x. (w, (k, x))) tail)) ∙ found_as_as inr (λ x. inl (w, (k, x))) tail))
      ∙ found_as_as (tree_in Declared) (λ x. inr (inl (w, (k, x)))) tail)

  pub object_goes : has (class_word ∷ []) (head_sort ts) ≡ false → has (trait_word ∷ []) (head_sort ts) ≡ false → read_token (is sort (object_word ∷ [])) ts ≡ Done w us
      → found_tree b Declared ts ≡ object_found k rest b
  object_goes c h d =
      let tail = reads b object_tail rest in
      tree_rule b Declared refl ts ∙ (ap (found_as (tree_in Declared)) (right_reads b class_form others ts c ∙ (ap (found_as inr) (right_reads b trait_form object_form ts h
      ∙ (ap (found_as inr) (two_tokens b (object_word ∷ []) names object_tail ts us rest w k d n) ∙ found_as_as inr (λ x. (w, (k, x))) tail)) ∙ found_as_as inr (λ x. inr (w, (k, x))) tail))
      ∙ found_as_as (tree_in Declared) (λ x. inr (inr (w, (k, x)))) tail)

-- its word or its name at fault
module _ (file : ℕ) (bytes : List ℕ) (tokens : List TokenOf) (ts : List Spelled) (e : Fault) where
  class_at : has (class_word ∷ []) (head_sort ts) ≡ true → Faults file bytes tokens (λ b. reads b class_form ts) e → Faults file bytes tokens (λ b. found_tree b Declared ts) e
  class_at h f = fault_rule file bytes tokens Declared refl ts e (fault_left file bytes tokens class_form others ts e refl h f)

  other_at : has (class_word ∷ []) (head_sort ts) ≡ false → Faults file bytes tokens (λ b. reads b others ts) e → Faults file bytes tokens (λ b. found_tree b Declared ts) e
  other_at c f = fault_rule file bytes tokens Declared refl ts e (fault_right file bytes tokens class_form others ts e c f)

  object_at : has (class_word ∷ []) (head_sort ts) ≡ false → has (trait_word ∷ []) (head_sort ts) ≡ false → Faults file bytes tokens (λ b. reads b object_form ts) e
      → Faults file bytes tokens (λ b. found_tree b Declared ts) e
  object_at c h f = other_at c (fault_right file bytes tokens trait_form object_form ts e h f)

  pub object_word_fault : has (class_word ∷ []) (head_sort ts) ≡ false → has (trait_word ∷ []) (head_sort ts) ≡ false → Faults file bytes tokens (λ b. read_token (is sort (object_word ∷ [])) ts) e
      → Faults file bytes tokens (λ b. found_tree b Declared ts) e
  object_word_fault c h f = object_at c h (fault_then_token file bytes tokens (object_word ∷ []) (Then (T names) object_tail) ts e f)

  module _ (w : Spelled) (us : List Spelled) (n : Faults file bytes tokens (λ b. read_token (is sort names) us) e) where
    name_fault : (of : ℕ) (q : Form Name) → read_token (is sort (of ∷ [])) ts ≡ Done w us → Faults file bytes tokens (λ b. reads b (Then (T (of ∷ [])) (Then (T names) q)) ts) e
    name_fault of q d = fault_past_token file bytes tokens (of ∷ []) (Then (T names) q) ts w us e d (fault_then_token file bytes tokens names q us e n)

    pub class_name_fault : has (class_word ∷ []) (head_sort ts) ≡ true → read_token (is sort (class_word ∷ [])) ts ≡ Done w us → Faults file bytes tokens (λ b. found_tree b Declared ts) e
    class_name_fault h d = class_at h (name_fault class_word (perhaps class_tail) d)

    pub trait_name_fault : has (class_word ∷ []) (head_sort ts) ≡ false → has (trait_word ∷ []) (head_sort ts) ≡ true → read_token (is sort (trait_word ∷ [])) ts ≡ Done w us
        → Faults file bytes tokens (λ b. found_tree b Declared ts) e
    trait_name_fault c h d = other_at c (fault_left file bytes tokens trait_form object_form ts e refl h (name_fault trait_word trait_tail d))

    pub object_name_fault : has (class_word ∷ []) (head_sort ts) ≡ false → has (trait_word ∷ []) (head_sort ts) ≡ false → read_token (is sort (object_word ∷ [])) ts ≡ Done w us
        → Faults file bytes tokens (λ b. found_tree b Declared ts) e
    object_name_fault c h d = object_at c h (name_fault object_word object_tail d)

-- with its notes

pub decl_done : (ts us rest : List Spelled) (notes : List Note) (kind : DeclKind) (span : Span) → IsDone (λ b. found_tree b Notes ts) notes us → IsDone (λ b. found_tree b Declared us) kind rest
    → ((used : List Spelled) → ts ≡ used ++ rest → span ≡ cover used) → IsDone (λ b. found_tree b Decl_of ts) (roll-Decl (record { notes = notes; kind = kind; span = span })) rest
unfolding decl
decl_done ts us rest notes kind span d1 d2 h b =
    let k = tree_done Declared us kind rest d2 in
    let n = done_on Notes (Ref Declared) ts notes us (kind, k.0) rest d1 k.1 in
    let v : Val sort T_of (rule_of Decl_of) = ((notes, n.0), (kind, k.0)) in
    done_rule Decl_of refl ts v rest n.1 b ∙ ap (λ s. Done (decl notes kind s) rest) (covered_by b (rule_of Decl_of) refl v ts rest span (n.1 b) h)

module _ (file : ℕ) (bytes : List ℕ) (tokens : List TokenOf) (ts : List Spelled) (e : Fault) where
  pub decl_notes : Faults file bytes tokens (λ b. found_tree b Notes ts) e → Faults file bytes tokens (λ b. found_tree b Decl_of ts) e
  decl_notes f = fault_rule file bytes tokens Decl_of refl ts e (fault_here file bytes tokens Notes (Ref Declared) ts e refl refl f)

  pub decl_kind_fault : (notes : List Note) (us : List Spelled) → IsDone (λ b. found_tree b Notes ts) notes us → Faults file bytes tokens (λ b. found_tree b Declared us) e
      → Faults file bytes tokens (λ b. found_tree b Decl_of ts) e
  decl_kind_fault notes us d f = fault_rule file bytes tokens Decl_of refl ts e (fault_past file bytes tokens Notes (Ref Declared) ts notes us e d (fault_ref file bytes tokens Declared us e f))
