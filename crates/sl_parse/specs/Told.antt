-- What a function tells of what a reader finds, in both languages at once: the files whose phrases nest at most 64 deep, and all files.
use Rattle.std.specs.Prelude.{◌≡◌, ℕ, suc, ◌<◌, ◌≤◌, List, [], ◌∷◌, length, drop, Bool, true, Option, ◌⊎◌, nat_lt, if◌then◌else◌}
use Rattle.std.specs.declared.result.Result.{Result}
use Rattle.std.specs.declared.result.Result.TheVariants.{Ok, Err}
use Rattle.sl_text.specs.declared.token.Token.{Token as TokenOf}
use Rattle.sl_text.specs.declared.fault.Broken.{Broken}
use Rattle.sl_text.specs.declared.fault.Fault.{Fault}
use Rattle.sl_text.specs.declared.fault.Fault.TheVariants as fault
use Rattle.sl_grammar.specs.Phrase.{Found, Done, Stopped, left_of, read_token}
use Rattle.sl_grammar.specs.Law.{found_as}
use Rattle.sl_grammar.specs.Grammar.{Form, Many, Then, Ref, Val, has, is, read_form}
use Rattle.sl_tree.specs.Sorts.{Spelled, spelled, sort, left_parenthesis, right_parenthesis, comma, separator, with_word}
use Rattle.sl_tree.specs.declared.tree.TypeTerm.{TypeTerm}
use Rattle.sl_tree.specs.declared.tree.Field.{Field}
use Rattle.sl_tree.specs.declared.tree.Body.{Body}
use Rattle.sl_tree.specs.declared.tree.Import.{Import}
use Rattle.sl_tree.specs.declared.tree.Decl.{Decl}
use Rattle.sl_parse_expr.specs.Grammar.{after_kinds}
use Rattle.sl_parse_expr.specs.Told.{behind, head_sort}
use Rattle.sl_parse_expr.specs.Answers.{place, rule}
use Rattle.sl_parse.specs.Names.{Name, Type_term, Library, Pair, Item, T, listed, closed}
use Rattle.sl_parse.specs.Values.{Covered, T_of, tree_of, firsts, given_in, imports_in, decls_in, ResultParts}
use Rattle.sl_parse.specs.Grammar.{Bound, Limited, Unlimited, grammar, room, read}

-- what is found in each language
abbrev pub Family : Type 0 → Type 0
Family X = Bound → Found Spelled X

-- the tree of a name, without its span
abbrev pub bare : {X : Type 0} → Covered X → X
bare v = v.0

unfoldable pub found_tree : Bound → (n : Name) → List Spelled → Found Spelled (tree_of n)
found_tree b n ts = found_as bare (read b n ts)

-- what a form reads
unfoldable pub reads : Bound → (g : Form Name) → List Spelled → Found Spelled (Val sort T_of g)
reads b g ts = read_form sort T_of room grammar.sets g (read b) (read b) ts

-- the same was found in both languages
abbrev pub IsDone : {X : Type 0} → Family X → X → List Spelled → Type 0
IsDone f x rest = (b : Bound) → f b ≡ Done x rest

-- in both languages nothing goes on with the next token, and what was read is nothing whole
abbrev pub AreStopped : {X : Type 0} → Family X → List Spelled → Type 0
AreStopped f rest = (b : Bound) → f b ≡ Stopped rest

-- a reader went no further, also where it found something whole, after which the next token could go on
abbrev pub Held : {X : Type 0} → Found Spelled X → List Spelled → Type 0
Held (Done x rest) ts = (rest ≡ ts) × (has after_kinds (head_sort ts) ≡ true)
Held (Stopped rest) ts = rest ≡ ts

-- a reader went further
abbrev pub Passed : {X : Type 0} → Found Spelled X → List Spelled → Type 0
Passed f ts = length (left_of f) < length ts

-- rule G1 is broken at a token, or at the end of the tokens; or rule G6
abbrev pub IsWrongAt : {X : Type 0} → Family X → Broken → List Spelled → Type 0
IsWrongAt f broken ts = (broken.rule ≡ rule 1) × AreStopped f ts

abbrev pub IsDeepAt : {X : Type 0} → Family X → Broken → List Spelled → Type 0
IsDeepAt f broken ts = (broken.rule ≡ rule 6) × Held (f Limited) ts × Passed (f Unlimited) ts

abbrev pub Faulted : {X : Type 0} → ℕ → List ℕ → List TokenOf → Family X → Broken → Type 0
Faulted file bytes tokens f broken =
    (i : ℕ) × (i ≤ length tokens) × (broken.span ≡ place file bytes (drop i tokens)) × (IsWrongAt f broken (behind bytes tokens i) ⊎ IsDeepAt f broken (behind bytes tokens i))

-- what is told of a fault
abbrev pub Faults : {X : Type 0} → ℕ → List ℕ → List TokenOf → Family X → Fault → Type 0
Faults file bytes tokens f (fault.Broken broken) = Faulted file bytes tokens f broken
Faults file bytes tokens f fault.Mem = Unit {0}

-- what is told of a result: a tree, and the index behind it
abbrev pub Told : {X : Type 0} → ℕ → List ℕ → List TokenOf → Family X → Result (X × ℕ) Fault → Type 0
Told file bytes tokens f (Ok (x, next)) = IsDone f x (behind bytes tokens next)
Told file bytes tokens f (Err e) = Faults file bytes tokens f e

-- of two parts, and the index behind them
abbrev pub ToldTwo : {X Y : Type 0} → ℕ → List ℕ → List TokenOf → Family (X × Y) → Result (X × Y × ℕ) Fault → Type 0
ToldTwo file bytes tokens f (Ok (x, y, next)) = IsDone f (x, y) (behind bytes tokens next)
ToldTwo file bytes tokens f (Err e) = Faults file bytes tokens f e

-- of the token at an index
abbrev pub ToldToken : ℕ → List ℕ → List TokenOf → ℕ → List ℕ → Result TokenOf Fault → Type 0
ToldToken file bytes tokens at sorts (Ok token) = read_token (is sort sorts) (behind bytes tokens at) ≡ Done (spelled bytes token) (behind bytes tokens (suc at))
ToldToken file bytes tokens at sorts (Err e) = Faults file bytes tokens (λ b. read_token (is sort sorts) (behind bytes tokens at)) e

-- Forms that are parts of a rule, and the trees that are read by them.

abbrev pub pairs_form : Form Name
pairs_form = Then (T (left_parenthesis ∷ [])) (closed (comma ∷ []) (Ref Pair) right_parenthesis)

abbrev pub pairs_view : Spelled × (Covered Field × (List (Spelled × Covered Field) × Spelled)) → List Field
pairs_view v = firsts v.1.0 v.1.1.0

abbrev pub types_form : Form Name
types_form = listed (with_word ∷ []) (Ref Type_term)

abbrev pub types_view : Covered TypeTerm × List (Spelled × Covered TypeTerm) → List TypeTerm
types_view v = firsts v.0 v.1

abbrev pub result_view : ResultParts → TypeTerm × Option Body
result_view v = (v.1.0.0, given_in v.1.1)

abbrev pub items_form : Form Name
items_form = Many (Then (T (separator ∷ [])) (Ref Item))

abbrev pub items_view : List (Spelled × Covered (Import ⊎ Decl)) → List Import × List Decl
items_view v = (imports_in v, decls_in v)

-- what is told of a token of the library's import: rule G2 is broken at another one, and rule G1 at the end of the file
abbrev pub differing : ℕ → List TokenOf → ℕ
differing at tokens = if nat_lt at (length tokens) then 2 else 1

abbrev pub ToldLibraryToken : ℕ → List ℕ → List TokenOf → ℕ → (Spelled → Bool) → Result (Unit {0}) Fault → Type 0
ToldLibraryToken file bytes tokens at passes (Ok done) = (k : Spelled) × (read_token passes (behind bytes tokens at) ≡ Done k (behind bytes tokens (suc at)))
ToldLibraryToken file bytes tokens at passes (Err (fault.Broken broken)) =
    (read_token passes (behind bytes tokens at) ≡ Stopped (behind bytes tokens at)) × (broken ≡ record { rule = rule (differing at tokens); span = place file bytes (drop at tokens) })
ToldLibraryToken file bytes tokens at passes (Err fault.Mem) = Unit {0}

-- of the whole import
abbrev pub ToldLibrary : ℕ → List ℕ → List TokenOf → ℕ → Result ℕ Fault → Type 0
ToldLibrary file bytes tokens start (Ok next) = (b : Bound) → found_tree b Library (behind bytes tokens start) ≡ Done tt (behind bytes tokens next)
ToldLibrary file bytes tokens start (Err (fault.Broken broken)) =
    (i : ℕ) × (start ≤ i) × (i ≤ length tokens) × (broken ≡ record { rule = rule (differing i tokens); span = place file bytes (drop i tokens) })
    × ((b : Bound) → found_tree b Library (behind bytes tokens start) ≡ Stopped (behind bytes tokens i))
ToldLibrary file bytes tokens start (Err fault.Mem) = Unit {0}
