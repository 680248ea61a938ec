-- What is added to a body, one piece after another.
use Rattle.std.proofs.Common.{◌≡◌, ℕ, List, [], ◌∷◌, ◌++◌, sym, ap, ◌∙◌, append_assoc, append-nil}
use Rattle.std.specs.Prelude.{Result, Ok, Err, OnOk}
use Rattle.sl_num.specs.declared.arithmetic.Op.{Op}
use Rattle.sl_num.specs.declared.comparing.Comparison.{Comparison}
use Rattle.sl_core.specs.declared.tree.CoreExpr.{CoreExpr}
use Rattle.sl_core.specs.declared.tree.CoreExpr.TheVariants as expr
use Rattle.c_tree.specs.declared.tree.CBinary.{CBinary}
use Rattle.c_tree.specs.declared.tree.CExpr.{CExpr}
use Rattle.c_tree.specs.declared.tree.CExpr.TheVariants.{Binary}
use Rattle.c_tree.specs.declared.tree.CStmt.{CStmt}
use Rattle.sl_frames.specs.Translated.{where_it_fits, operate, Code, code_of}
use Rattle.sl_frames.proofs.Variants.{code_of_compare, code_of_apply}

-- what follows where a result is there
pub on_ok : {A E P Q : Type 0} (result : Result A E) → (P → Q) → OnOk result P → OnOk result Q
on_ok (Ok value) follows holds = follows holds
on_ok (Err error) follows holds = holds

-- a statement, and then others
pub adds_then : (first middle last : List CStmt) (x y : CStmt) (others : List CStmt) → x ≡ y → middle ≡ first ++ x ∷ [] → last ≡ middle ++ others → last ≡ first ++ y ∷ others
adds_then first middle last x y others same begun more =
    more ∙ (ap (λ stmts. stmts ++ others) (begun ∙ ap (λ stmt. first ++ stmt ∷ []) same) ∙ append_assoc first (y ∷ []) others)

-- a test and a computation of the same operands
pub adds_same : (first last : List CStmt) (number : ℕ) (name : List ℕ) (operator : CBinary) (a b x y : CExpr) (file line : ℕ)
    → a ≡ x
    → b ≡ y
    → last ≡ first ++ where_it_fits number name a b file line (Binary operator a b)
    → last ≡ first ++ where_it_fits number name x y file line (Binary operator x y)
adds_same first last number name operator a b x y file line left right is =
    is
    ∙ (ap (λ e. first ++ where_it_fits number name e b file line (Binary operator e b)) left
    ∙ ap (λ e. first ++ where_it_fits number name x e file line (Binary operator x e)) right)

-- nothing is done before
pub adds_none : (body : List CStmt) (code : Code) → code.before ≡ [] → body ≡ body ++ code.before
adds_none body code none = sym (append-nil body) ∙ ap (λ stmts. body ++ stmts) (sym none)

-- what is done before two operands
adds_both : (first middle last : List CStmt) (left right l r : CoreExpr) (free between : ℕ)
    → l ≡ left
    → r ≡ right
    → middle ≡ first ++ (code_of l free).before
    → between ≡ (code_of l free).free
    → last ≡ middle ++ (code_of r between).before
    → last ≡ first ++ ((code_of left free).before ++ (code_of right (code_of left free).free).before)
adds_both first middle last left right l r free between at_left at_right begun next more =
    more
    ∙ (ap (λ e. middle ++ (code_of e between).before) at_right
    ∙ (ap (λ n. middle ++ (code_of right n).before) (next ∙ ap (λ e. (code_of e free).free) at_left)
    ∙ (ap (λ stmts. stmts ++ (code_of right (code_of left free).free).before) (begun ∙ ap (λ e. first ++ (code_of e free).before) at_left)
    ∙ append_assoc first (code_of left free).before (code_of right (code_of left free).free).before)))

-- what is done before a comparison
pub adds_compare : (comparison : Comparison) (first middle last : List CStmt) (left right l r : CoreExpr) (type free between : ℕ)
    → l ≡ left
    → r ≡ right
    → middle ≡ first ++ (code_of l free).before
    → between ≡ (code_of l free).free
    → last ≡ middle ++ (code_of r between).before
    → last ≡ first ++ (code_of (expr.Compare comparison left right type) free).before
adds_compare comparison first middle last left right l r type free between at_left at_right begun next more =
    adds_both first middle last left right l r free between at_left at_right begun next more
    ∙ ap (λ code. first ++ code.before) (sym (code_of_compare comparison left right type free))

-- what is done before the result of an operation is read
pub adds_apply : (op : Op) (first middle before last : List CStmt) (left right l r : CoreExpr) (type file line free between target : ℕ) (a b : CExpr)
    → l ≡ left
    → r ≡ right
    → middle ≡ first ++ (code_of l free).before
    → a ≡ (code_of l free).value
    → between ≡ (code_of l free).free
    → before ≡ middle ++ (code_of r between).before
    → b ≡ (code_of r between).value
    → target ≡ (code_of r between).free
    → last ≡ before ++ operate op target a b file line
    → last ≡ first ++ (code_of (expr.Apply op left right type file line) free).before
adds_apply op first middle before last left right l r type file line free between target a b at_left at_right begun first_value next more second_value end operated =
    let at_between : between ≡ (code_of left free).free = next ∙ ap (λ e. (code_of e free).free) at_left in
    let a_is : a ≡ (code_of left free).value = first_value ∙ ap (λ e. (code_of e free).value) at_left in
    let b_is : b ≡ (code_of right (code_of left free).free).value = second_value ∙ (ap (λ e. (code_of e between).value) at_right ∙ ap (λ n. (code_of right n).value) at_between) in
    let target_is : target ≡ (code_of right (code_of left free).free).free = end ∙ (ap (λ e. (code_of e between).free) at_right ∙ ap (λ n. (code_of right n).free) at_between) in
    operated
    ∙ (ap (λ n. before ++ operate op n a b file line) target_is
    ∙ (ap (λ e. before ++ operate op (code_of right (code_of left free).free).free e b file line) a_is
    ∙ (ap (λ e. before ++ operate op (code_of right (code_of left free).free).free (code_of left free).value e file line) b_is
    ∙ (ap (λ stmts. stmts ++ operate op (code_of right (code_of left free).free).free (code_of left free).value (code_of right (code_of left free).free).value file line)
    (adds_both first middle before left right l r free between at_left at_right begun next more)
    ∙ (append_assoc first ((code_of left free).before ++ (code_of right (code_of left free).free).before)
    (operate op (code_of right (code_of left free).free).free (code_of left free).value (code_of right (code_of left free).free).value file line)
    ∙ ap (λ code. first ++ code.before) (sym (code_of_apply op left right type file line free)))))))
