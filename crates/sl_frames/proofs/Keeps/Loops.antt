-- Each `break` of the C stands in a loop, where each `Break` of the core does.
use Rattle.std.proofs.Common.{◌≡◌, ℕ, List, [], ◌∷◌, ◌++◌, Bool, false, Option, Some, None, refl, sym, subst, ◌∙◌, All, map, codes}
use Rattle.std.specs.Prelude.{option_map, slice_get}
use Rattle.std.specs.List.{list_any}
use Rattle.std.proofs.lemmas.Bool.{or_parts}
use Rattle.std.proofs.lemmas.List.Elements.{All-nil, All-cons, All-append, All-map, All-from_recursion}
use Rattle.std.proofs.lemmas.List.Folds.{list_any_none}
use Rattle.sl_num.specs.declared.arithmetic.Op.{Op}
use Rattle.sl_num.specs.declared.arithmetic.Op.TheVariants.{Add, Sub, Mul, Div, Rem, Neg}
use Rattle.sl_core.specs.declared.tree.Core.{Core}
use Rattle.sl_core.specs.declared.tree.CoreExpr.{CoreExpr, CoreExpr-F, ind-CoreExpr, map-CoreExpr, roll-CoreExpr}
use Rattle.sl_core.specs.declared.tree.CoreExpr.TheOpen as expr
use Rattle.sl_core.specs.declared.tree.CoreStmt.{CoreStmt, CoreStmt-F, ind-CoreStmt, map-CoreStmt, roll-CoreStmt}
use Rattle.sl_core.specs.declared.tree.CoreStmt.TheOpen as stmt
use Rattle.sl_core.specs.Sound.{strays_step, strays}
use Rattle.c_tree.specs.declared.tree.CBinary.TheVariants as binary
use Rattle.c_tree.specs.declared.tree.CExpr.{CExpr}
use Rattle.c_tree.specs.declared.tree.CExpr.TheVariants.{Binary}
use Rattle.c_tree.specs.declared.tree.CStmt.{CStmt}
use Rattle.c_tree.specs.declared.tree.CStmt.TheVariants.{Assign, Call, If, Loop, Return, Get, Halt}
use Rattle.c_tree.specs.Rules as c
use Rattle.c_tree.specs.Rules.{some_are}
use Rattle.c_tree.proofs.Variants.{strays_are, strays_of_assign, strays_of_call, strays_of_if, strays_of_if_else, strays_of_loop, strays_of_return, strays_of_put, strays_of_get, strays_of_halt}
use Rattle.c_helpers.specs.Functions.{constant}
use Rattle.sl_frames.specs.Names.{place_of, called_name}
use Rattle.sl_frames.specs.Translated.{halt_at_zero, call_helper, where_it_fits, operate, Code, code_step, code_of, put_byte, print, with_value, text_of, put_code, else_of, joined, stmts_step, stmts_of}
use Rattle.sl_frames.proofs.Layers.{code_layer, stmts_layer}
use Rattle.sl_core.proofs.Layers.{strays_layer}

-- no `break` stands in a statement outside its loops
abbrev pub Stays : CStmt → Type 0
Stays s = c.strays s ≡ false

-- where it is so of each statement of a block, none has one
pub none_of : (block : List CStmt) → All Stays block → some_are (map c.strays block) ≡ false
none_of block all = list_any_none (λ so. so) (map c.strays block) (All-map (λ so. so ≡ false) c.strays block all)

-- a statement alone
alone : (s : CStmt) → Stays s → All Stays (s ∷ [])
alone s stays = All-cons Stays s [] stays (All-nil Stays)

-- Expressions ---------------------------------------------------------------------------------------------------------

halts_stay : (e : CExpr) (kind file line : ℕ) → Stays (halt_at_zero e kind file line)
halts_stay e kind file line = simp strays_are

fitting_stays : (number : ℕ) (name : List ℕ) (left right : CExpr) (file line : ℕ) (result : CExpr) → All Stays (where_it_fits number name left right file line result)
fitting_stays number name left right file line result =
    All-from_recursion Stays (where_it_fits number name left right file line result) (simp strays_are, (simp strays_are, (simp strays_are, tt)))

operation_stays : (op : Op) (number : ℕ) (left right : CExpr) (file line : ℕ) → All Stays (operate op number left right file line)
operation_stays Add number left right file line = fitting_stays number (codes "sl_sum_fits") left right file line (Binary binary.Add left right)
operation_stays Sub number left right file line = fitting_stays number (codes "sl_difference_fits") left right file line (Binary binary.Sub left right)
operation_stays Mul number left right file line = fitting_stays number (codes "sl_product_fits") left right file line (Binary binary.Mul left right)
operation_stays Div number left right file line =
    All-cons Stays (halt_at_zero right 4 file line) (where_it_fits number (codes "sl_quotient_fits") left right file line (Binary binary.Div left right)) (halts_stay right 4 file line)
    (fitting_stays number (codes "sl_quotient_fits") left right file line (Binary binary.Div left right))
operation_stays Rem number left right file line =
    All-cons Stays (halt_at_zero right 4 file line) (call_helper number (codes "sl_remainder") left right ∷ []) (halts_stay right 4 file line) (alone (call_helper number (codes "sl_remainder") left right) (simp strays_are))
operation_stays Neg number left right file line = fitting_stays number (codes "sl_difference_fits") (constant 0) left file line (Binary binary.Sub (constant 0) left)

-- what is done before an expression has its value
abbrev CodeStays : (ℕ → Code) → Type 0
CodeStays code = (free : ℕ) → All Stays (code free).before

abbrev ExprKnown : Type 0
ExprKnown = (e : CoreExpr) × CodeStays (code_of e)

abbrev expr_of : ExprKnown → CoreExpr
expr_of known = known.0

code_stays : (e : CoreExpr) → CodeStays (code_of e)
code_stays e = ind-CoreExpr (λ e. CodeStays (code_of e)) (λ x y same. subst (λ z. CodeStays (code_of (roll-CoreExpr z))) same (layer y)) e
  where
    via : (x : CoreExpr-F CoreExpr) → CodeStays (code_step (map-CoreExpr CoreExpr (ℕ → Code) code_of x)) → CodeStays (code_of (roll-CoreExpr x))
    via x h = subst CodeStays (sym (code_layer x)) h

    both : (left right : ExprKnown) (free : ℕ) → All Stays ((code_of left.0 free).before ++ (code_of right.0 (code_of left.0 free).free).before)
    both left right free = All-append Stays (code_of left.0 free).before (code_of right.0 (code_of left.0 free).free).before (left.1 free) (right.1 (code_of left.0 free).free)

    layer : (y : CoreExpr-F ExprKnown) → CodeStays (code_of (roll-CoreExpr (map-CoreExpr ExprKnown CoreExpr expr_of y)))
    layer (expr.Number number type) = via (expr.Number number type) (λ free. All-nil Stays)
    layer (expr.TextOf bytes) = via (expr.TextOf bytes) (λ free. All-nil Stays)
    layer (expr.Path path type) = via (expr.Path path type) (λ free. All-nil Stays)
    layer (expr.Apply op left right type file line) =
        via (expr.Apply op left.0 right.0 type file line)
        (λ free. All-append Stays ((code_of left.0 free).before ++ (code_of right.0 (code_of left.0 free).free).before) _ (both left right free)
        (operation_stays op (code_of right.0 (code_of left.0 free).free).free (code_of left.0 free).value (code_of right.0 (code_of left.0 free).free).value file line))
    layer (expr.Compare comparison left right type) = via (expr.Compare comparison left.0 right.0 type) (both left right)

-- a statement behind it
with_stays : (e : CoreExpr) (make : CExpr → CStmt) → Stays (make (code_of e 0).value) → All Stays (with_value e make)
with_stays e make stays = All-append Stays (code_of e 0).before (make (code_of e 0).value ∷ []) (code_stays e 0) (alone (make (code_of e 0).value) stays)

-- Statements ----------------------------------------------------------------------------------------------------------

-- what is printed
printing_stays : (text : Option (List ℕ)) (e : CoreExpr) → All Stays (put_code text e)
printing_stays (Some bytes) e = All-map Stays put_byte bytes (λ k byte inside. strays_of_put _)
printing_stays None e = with_stays e print (simp strays_are)

-- one of two blocks
choice_stays : (test : CExpr) (chosen other : List CStmt) → All Stays chosen → All Stays other → Stays (If test chosen (else_of other))
choice_stays test chosen [] first second = strays_of_if test chosen ∙ rw (none_of chosen first) refl
choice_stays test chosen (s ∷ other) first second = strays_of_if_else test chosen (s ∷ other) ∙ rw (none_of chosen first, none_of (s ∷ other) second) refl

module _ (core : Core) where
  abbrev Claim : Bool → List CStmt → Type 0
  Claim stray stmts = stray ≡ false → All Stays stmts

  abbrev StaysSo : CoreStmt → Type 0
  StaysSo s = Claim (strays s) (stmts_of core s)

  abbrev Known : Type 0
  Known = (s : CoreStmt) × StaysSo s

  abbrev first : Known → CoreStmt
  first known = known.0

  block_stays : (block : List Known) → list_any (λ strays. strays) (map strays (map first block)) ≡ false → All Stays (joined (map (stmts_of core) (map first block)))
  block_stays [] none = All-nil Stays
  block_stays (s ∷ block) none =
      let parts = or_parts (strays s.0) (list_any (λ strays. strays) (map strays (map first block))) none in
      All-append Stays (stmts_of core s.0) (joined (map (stmts_of core) (map first block))) (s.1 parts.0) (block_stays block parts.1)

  pub stmt_stays : (s : CoreStmt) → strays s ≡ false → All Stays (stmts_of core s)
  stmt_stays s = ind-CoreStmt StaysSo (λ x y same. subst (λ z. StaysSo (roll-CoreStmt z)) same (layer y)) s
    where
      via : (x : CoreStmt-F CoreStmt) → Claim (strays_step (map-CoreStmt CoreStmt Bool strays x)) (stmts_step core (map-CoreStmt CoreStmt (List CStmt) (stmts_of core) x)) → StaysSo (roll-CoreStmt x)
      via x h = rw (strays_layer x, stmts_layer core x) h

      layer : (y : CoreStmt-F Known) → StaysSo (roll-CoreStmt (map-CoreStmt Known CoreStmt first y))
      layer (stmt.Store path e) = via (stmt.Store path e) (λ none. with_stays e (Assign (place_of path)) (strays_of_assign (place_of path) (code_of e 0).value))
      layer (stmt.If test chosen other) =
          via (stmt.If test (map first chosen) (map first other))
          (λ none.
          let parts = or_parts (list_any (λ strays. strays) (map strays (map first chosen))) (list_any (λ strays. strays) (map strays (map first other))) none in
          with_stays test (λ value. If value (joined (map (stmts_of core) (map first chosen))) (else_of (joined (map (stmts_of core) (map first other)))))
          (choice_stays (code_of test 0).value (joined (map (stmts_of core) (map first chosen))) (joined (map (stmts_of core) (map first other))) (block_stays chosen parts.0) (block_stays other parts.1)))
      layer (stmt.Loop stmts) = via (stmt.Loop (map first stmts)) (λ none. alone (Loop (joined (map (stmts_of core) (map first stmts)))) (strays_of_loop (joined (map (stmts_of core) (map first stmts)))))
      layer stmt.Break = via stmt.Break (λ none. cc)
      layer (stmt.Call target number) =
          via (stmt.Call target number)
          (λ none. alone (Call (option_map place_of target) (called_name core number (slice_get core.functions number)) []) (strays_of_call (option_map place_of target) (called_name core number (slice_get core.functions number)) []))
      layer (stmt.Put e) = via (stmt.Put e) (λ none. printing_stays (text_of e) e)
      layer (stmt.Get path) = via (stmt.Get path) (λ none. alone (Get (place_of path)) (strays_of_get (place_of path)))
      layer (stmt.Halt kind file line) = via (stmt.Halt kind file line) (λ none. alone (Halt kind file line) (strays_of_halt kind file line))
      layer (stmt.Return e) = via (stmt.Return e) (λ none. with_stays e (λ value. Return (Some value)) (strays_of_return (Some (code_of e 0).value)))
