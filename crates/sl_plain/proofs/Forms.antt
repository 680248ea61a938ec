-- What each statement of a plain program declares, is lowered to, and has for lines, one variant at a time.
use Rattle.std.proofs.Common.{◌≡◌, ℕ, suc, ◌+◌, ◌^◌, ◌<◌, List, [], ◌∷◌, ◌++◌, length, map, take, get_or, Bool, Result, Ok, Err, IfOk, OnOk, flat_map, refl, sym, ap, ap₂, subst, ◌∙◌, arith, codes, replicate, append_assoc, append-nil}
use Rattle.std.proofs.lemmas.List.{take_more}
use Rattle.std.proofs.lemmas.Grind.{flat_map-append}
use Rattle.sl_core.specs.declared.tree.CorePath.{CorePath}
use Rattle.sl_core.specs.declared.tree.CoreExpr.{CoreExpr}
use Rattle.sl_core.specs.declared.tree.CoreStmt.{CoreStmt}
use Rattle.sl_core.specs.declared.tree.CoreStmt.TheVariants as core
use Rattle.sl_plain.specs.declared.program.Kind.{Kind}
use Rattle.sl_plain.specs.declared.program.Atom.{Atom}
use Rattle.sl_plain.specs.declared.program.Right.{Right}
use Rattle.sl_plain.specs.declared.program.Condition.{Condition}
use Rattle.sl_plain.specs.declared.program.Stmt.{Stmt, Stmt-F, map-Stmt, roll-Stmt}
use Rattle.sl_plain.specs.declared.program.Stmt.TheOpen as layer
use Rattle.sl_plain.specs.declared.program.Stmt.TheVariants as stmt
use Rattle.sl_plain.specs.declared.program.Plain.{Plain}
use Rattle.sl_plain.specs.declared.lowering.numbers.Variables.{Variables}
use Rattle.sl_plain.specs.Program.{Declared, counted, kind_of_atom, joined, declared_in, declared}
use Rattle.sl_plain.specs.Means.{assert_halt, halt_halt}
use Rattle.sl_plain.specs.Lowered.{path_of, atom_expr, condition_expr, store_right, unnamed, leave_unless, for_of, put_text, print_of, Lowered, lowered_step, lowered, unnamed_of, main_body, main_of}
use Rattle.sl_plain.specs.Reach.{AreLines, right_lines, lines_in}
use Rattle.sl_plain.specs.Numbering.{AreNumbered, Declares, lowered_all}
use Rattle.sl_plain.proofs.Names.{all_append, from_all, to_all}
use Rattle.sl_plain.proofs.Layers.{declared_layer, lowered_layer, lines_layer}
use Rattle.sl_plain.proofs.Runs.{joined_map}

pub declared_of_declare : (is_var : Bool) (name : List ℕ) (type : Kind) (first : Right) → declared_in (stmt.Declare is_var name type first) ≡ record { name = name; is_var = is_var; type = type } ∷ []
declared_of_declare is_var name type first = ap declared_in (sym (stmt.rolls-Declare is_var name type first)) ∙ declared_layer (layer.Declare is_var name type first)

pub declared_of_assign : (name : List ℕ) (value : Right) → declared_in (stmt.Assign name value) ≡ []
declared_of_assign name value = ap declared_in (sym (stmt.rolls-Assign name value)) ∙ declared_layer (layer.Assign name value)

pub declared_of_print : (atom : Atom) → declared_in (stmt.Print atom) ≡ []
declared_of_print atom = ap declared_in (sym (stmt.rolls-Print atom)) ∙ declared_layer (layer.Print atom)

pub declared_of_print_text : (text : List ℕ) → declared_in (stmt.PrintText text) ≡ []
declared_of_print_text text = ap declared_in (sym (stmt.rolls-PrintText text)) ∙ declared_layer (layer.PrintText text)

pub declared_of_if : (test : Condition) (chosen other : List Stmt) → declared_in (stmt.If test chosen other) ≡ joined (map declared_in chosen) ++ joined (map declared_in other)
declared_of_if test chosen other = ap declared_in (sym (stmt.rolls-If test chosen other)) ∙ declared_layer (layer.If test chosen other)

pub declared_of_while : (test : Condition) (body : List Stmt) → declared_in (stmt.While test body) ≡ joined (map declared_in body)
declared_of_while test body = ap declared_in (sym (stmt.rolls-While test body)) ∙ declared_layer (layer.While test body)

pub declared_of_for : (name : List ℕ) (first end : Atom) (body : List Stmt) (line : ℕ) → declared_in (stmt.For name first end body line) ≡ counted name ∷ joined (map declared_in body)
declared_of_for name first end body line = ap declared_in (sym (stmt.rolls-For name first end body line)) ∙ declared_layer (layer.For name first end body line)

pub declared_of_assert : (test : Condition) (line : ℕ) → declared_in (stmt.Assert test line) ≡ []
declared_of_assert test line = ap declared_in (sym (stmt.rolls-Assert test line)) ∙ declared_layer (layer.Assert test line)

pub declared_of_halt : (text : List ℕ) (line : ℕ) → declared_in (stmt.Halt text line) ≡ []
declared_of_halt text line = ap declared_in (sym (stmt.rolls-Halt text line)) ∙ declared_layer (layer.Halt text line)

module _ (names : List Declared) (taken : ℕ) where
  abbrev lows : List Stmt → List CoreStmt
  lows stmts = lowered_all names stmts taken

  -- the core of a layer
  of_layer : (s : Stmt) (x : Stmt-F Stmt) → roll-Stmt x ≡ s → lowered names s taken ≡ lowered_step names (map-Stmt Stmt Lowered (lowered names) x) taken
  of_layer s x same = ap (λ s. lowered names s taken) (sym same) ∙ ap (λ (low : Lowered). low taken) (lowered_layer names x)

  pub lowered_of_declare : (is_var : Bool) (name : List ℕ) (type : Kind) (first : Right) → lowered names (stmt.Declare is_var name type first) taken ≡ store_right names (path_of names name) first ∷ []
  lowered_of_declare is_var name type first = of_layer _ (layer.Declare is_var name type first) (stmt.rolls-Declare is_var name type first)

  pub lowered_of_assign : (name : List ℕ) (value : Right) → lowered names (stmt.Assign name value) taken ≡ store_right names (path_of names name) value ∷ []
  lowered_of_assign name value = of_layer _ (layer.Assign name value) (stmt.rolls-Assign name value)

  pub lowered_of_print : (atom : Atom) → lowered names (stmt.Print atom) taken ≡ print_of (kind_of_atom names atom) (atom_expr names atom)
  lowered_of_print atom = of_layer _ (layer.Print atom) (stmt.rolls-Print atom)

  pub lowered_of_print_text : (text : List ℕ) → lowered names (stmt.PrintText text) taken ≡ put_text (text ++ 10 ∷ []) ∷ []
  lowered_of_print_text text = of_layer _ (layer.PrintText text) (stmt.rolls-PrintText text)

  pub lowered_of_if : (test : Condition) (chosen other : List Stmt) → lowered names (stmt.If test chosen other) taken ≡ core.If (condition_expr names test) (lows chosen) (lows other) ∷ []
  lowered_of_if test chosen other = of_layer _ (layer.If test chosen other) (stmt.rolls-If test chosen other)

  pub lowered_of_while : (test : Condition) (body : List Stmt) → lowered names (stmt.While test body) taken ≡ core.Loop (leave_unless (condition_expr names test) ∷ lows body) ∷ []
  lowered_of_while test body = of_layer _ (layer.While test body) (stmt.rolls-While test body)

  pub lowered_of_for : (name : List ℕ) (first end : Atom) (body : List Stmt) (line : ℕ) → lowered names (stmt.For name first end body line) taken ≡ for_of line (path_of names name) (unnamed names taken) (unnamed names (suc taken)) (atom_expr names first) (atom_expr names end) (lowered_all names body (suc (suc taken)))
  lowered_of_for name first end body line = of_layer _ (layer.For name first end body line) (stmt.rolls-For name first end body line)

  pub lowered_of_assert : (test : Condition) (line : ℕ) → lowered names (stmt.Assert test line) taken ≡ core.If (condition_expr names test) [] (core.Halt assert_halt 0 line ∷ []) ∷ []
  lowered_of_assert test line = of_layer _ (layer.Assert test line) (stmt.rolls-Assert test line)

  pub lowered_of_halt : (text : List ℕ) (line : ℕ) → lowered names (stmt.Halt text line) taken ≡ core.Halt halt_halt 0 line ∷ []
  lowered_of_halt text line = of_layer _ (layer.Halt text line) (stmt.rolls-Halt text line)

-- what is known of an `Ok` tells more of it
pub ok_so : {A E : Type 0} (P Q : A → Type 0) (result : Result A E) → IfOk result P → ((x : A) → P x → Q x) → IfOk result Q
ok_so P Q (Ok x) h k = k x h
ok_so P Q (Err e) h k = tt

pub ok_known : {A E : Type 0} {P : Type 0} (result : Result A E) → P → IfOk result (λ x. P)
ok_known (Ok x) h = h
ok_known (Err e) h = tt

-- and what is known where something went well
pub on_ok_so : {A E : Type 0} (P Q : Type 0) (result : Result A E) → OnOk result P → (P → Q) → OnOk result Q
on_ok_so P Q (Ok x) h k = k h
on_ok_so P Q (Err e) h k = tt

-- Lists -----------------------------------------------------------------------------------------------------------------

-- one more statement of a list
flat_map_more : {X : Type 0} (f : Stmt → List X) (stmts : List Stmt) (i : ℕ) (s d : Stmt) → i < length stmts → s ≡ get_or stmts i d → flat_map f (take i stmts) ++ f s ≡ flat_map f (take (i + 1) stmts)
flat_map_more f stmts i s d within is =
    ap (λ rest. flat_map f (take i stmts) ++ rest) (sym (append-nil (f s)))
    ∙ (sym (flat_map-append f (take i stmts) (s ∷ [])) ∙ ap (flat_map f) (ap (λ y. take i stmts ++ (y ∷ [])) is ∙ sym (take_more stmts i d within)))

-- Declarations ----------------------------------------------------------------------------------------------------------

-- nothing is declared
pub declares_none : (entries : List Declared) (variables : Variables) → entries ≡ [] → Declares entries variables variables
declares_none entries variables none before numbered = subst (λ entries. AreNumbered (before ++ entries) variables) (sym none) (subst (λ all. AreNumbered all variables) (sym (append-nil before)) numbered)

-- some are declared, and then others
pub declares_then : (first second : List Declared) (a b c : Variables) → Declares first a b → Declares second b c → Declares (first ++ second) a c
declares_then first second a b c h k before numbered = subst (λ all. AreNumbered all c) (append_assoc before first second) (k (before ++ first) (h before numbered))

pub declares_same : (entries others : List Declared) (a b : Variables) → entries ≡ others → Declares entries a b → Declares others a b
declares_same entries others a b same h = subst (λ entries. Declares entries a b) same h

-- one more statement of a list
pub declares_more : (stmts : List Stmt) (i : ℕ) (s d : Stmt) (a b c : Variables) → i < length stmts → s ≡ get_or stmts i d → Declares (flat_map declared_in (take i stmts)) a b → Declares (declared_in s) b c → Declares (flat_map declared_in (take (i + 1) stmts)) a c
declares_more stmts i s d a b c within is h k =
    declares_same (flat_map declared_in (take i stmts) ++ declared_in s) (flat_map declared_in (take (i + 1) stmts)) a c (flat_map_more declared_in stmts i s d within is)
    (declares_then (flat_map declared_in (take i stmts)) (declared_in s) a b c h k)

-- Lines -----------------------------------------------------------------------------------------------------------------

pub lines_of_declare : (is_var : Bool) (name : List ℕ) (type : Kind) (first : Right) → lines_in (stmt.Declare is_var name type first) ≡ right_lines first
lines_of_declare is_var name type first = ap lines_in (sym (stmt.rolls-Declare is_var name type first)) ∙ lines_layer (layer.Declare is_var name type first)

pub lines_of_assign : (name : List ℕ) (value : Right) → lines_in (stmt.Assign name value) ≡ right_lines value
lines_of_assign name value = ap lines_in (sym (stmt.rolls-Assign name value)) ∙ lines_layer (layer.Assign name value)

pub lines_of_print : (atom : Atom) → lines_in (stmt.Print atom) ≡ []
lines_of_print atom = ap lines_in (sym (stmt.rolls-Print atom)) ∙ lines_layer (layer.Print atom)

pub lines_of_print_text : (text : List ℕ) → lines_in (stmt.PrintText text) ≡ []
lines_of_print_text text = ap lines_in (sym (stmt.rolls-PrintText text)) ∙ lines_layer (layer.PrintText text)

pub lines_of_if : (test : Condition) (chosen other : List Stmt) → lines_in (stmt.If test chosen other) ≡ flat_map lines_in chosen ++ flat_map lines_in other
lines_of_if test chosen other = ap lines_in (sym (stmt.rolls-If test chosen other)) ∙ (lines_layer (layer.If test chosen other) ∙ ap₂ (λ a b. a ++ b) (joined_map lines_in chosen) (joined_map lines_in other))

pub lines_of_while : (test : Condition) (body : List Stmt) → lines_in (stmt.While test body) ≡ flat_map lines_in body
lines_of_while test body = ap lines_in (sym (stmt.rolls-While test body)) ∙ (lines_layer (layer.While test body) ∙ joined_map lines_in body)

pub lines_of_for : (name : List ℕ) (first end : Atom) (body : List Stmt) (line : ℕ) → lines_in (stmt.For name first end body line) ≡ line ∷ flat_map lines_in body
lines_of_for name first end body line = ap lines_in (sym (stmt.rolls-For name first end body line)) ∙ (lines_layer (layer.For name first end body line) ∙ ap (λ lines. line ∷ lines) (joined_map lines_in body))

pub lines_of_assert : (test : Condition) (line : ℕ) → lines_in (stmt.Assert test line) ≡ line ∷ []
lines_of_assert test line = ap lines_in (sym (stmt.rolls-Assert test line)) ∙ lines_layer (layer.Assert test line)

pub lines_of_halt : (text : List ℕ) (line : ℕ) → lines_in (stmt.Halt text line) ≡ line ∷ []
lines_of_halt text line = ap lines_in (sym (stmt.rolls-Halt text line)) ∙ lines_layer (layer.Halt text line)

pub no_lines : AreLines []
no_lines = to_all (λ line. line < 2 ^ 32) [] tt

pub one_line : (line : ℕ) → line < 2 ^ 32 → AreLines (line ∷ [])
one_line line less = to_all (λ line. line < 2 ^ 32) (line ∷ []) (less, tt)

pub lines_then : (first second : List ℕ) → AreLines first → AreLines second → AreLines (first ++ second)
lines_then first second h k = to_all (λ line. line < 2 ^ 32) (first ++ second) (all_append (λ line. line < 2 ^ 32) first second (from_all (λ line. line < 2 ^ 32) first h) (from_all (λ line. line < 2 ^ 32) second k))

-- one more statement of a list
pub lines_more : (stmts : List Stmt) (i : ℕ) (s d : Stmt) → i < length stmts → s ≡ get_or stmts i d → AreLines (flat_map lines_in (take i stmts)) → AreLines (lines_in s) → AreLines (flat_map lines_in (take (i + 1) stmts))
lines_more stmts i s d within is h k = subst AreLines (flat_map_more lines_in stmts i s d within is) (lines_then (flat_map lines_in (take i stmts)) (lines_in s) h k)

-- Cores -----------------------------------------------------------------------------------------------------------------

module _ (names : List Declared) (taken : ℕ) where
  lows_are : (stmts : List Stmt) → lows names taken stmts ≡ flat_map (λ s. lowered names s taken) stmts
  lows_are [] = refl
  lows_are (s ∷ stmts) = ap (λ rest. lowered names s taken ++ rest) (lows_are stmts)

  -- one more statement of a list
  pub lowered_more : (stmts : List Stmt) (i : ℕ) (s d : Stmt) (low more : List CoreStmt) → i < length stmts → s ≡ get_or stmts i d → low ≡ lows names taken (take i stmts) → more ≡ lowered names s taken → low ++ more ≡ lows names taken (take (i + 1) stmts)
  lowered_more stmts i s d low more within is h k =
      ap₂ (λ xs ys. xs ++ ys) (h ∙ lows_are (take i stmts)) k
      ∙ (flat_map_more (λ s. lowered names s taken) stmts i s d within is ∙ sym (lows_are (take (i + 1) stmts)))

-- a `for`, whose body is lowered behind its two variables
pub for_lowered : (names : List Declared) (taken : ℕ) (name : List ℕ) (from to : Atom) (body : List Stmt) (line second inner : ℕ) (path next_path bound_path : CorePath) (first end : CoreExpr) (low : List CoreStmt)
    → second ≡ taken + 1 → inner ≡ second + 1 → path ≡ path_of names name → next_path ≡ unnamed names taken → bound_path ≡ unnamed names second → first ≡ atom_expr names from → end ≡ atom_expr names to
    → low ≡ lowered_all names body inner → for_of line path next_path bound_path first end low ≡ lowered names (stmt.For name from to body line) taken
for_lowered names taken name from to body line second inner path next_path bound_path first end low two three is_path is_next is_bound is_first is_end is_low =
    let then : second ≡ suc taken = omega arith in
    let behind_both : inner ≡ suc (suc taken) = omega arith in
    let all : low ≡ lowered_all names body (suc (suc taken)) = is_low ∙ ap (lowered_all names body) behind_both in
    let bound : bound_path ≡ unnamed names (suc taken) = is_bound ∙ ap (unnamed names) then
    in (λ i. for_of line (is_path i) (is_next i) (bound i) (is_first i) (is_end i) (all i)) ∙ sym (lowered_of_for names taken name from to body line)

-- `NAME.main`
pub main_made : (program : Plain) (name vars : List ℕ) (body : List CoreStmt) → name ≡ program.name ++ codes ".main" → vars ≡ replicate (length (declared program) + unnamed_of program) 0 → body ≡ main_body program → record { name = name; result = 0; vars = vars; body = body } ≡ main_of program
main_made program name vars body named counted made = λ k. record { name = named k; result = 0; vars = counted k; body = made k }
