-- Lists of what is numbered, one item after another.
use Rattle.std.proofs.Common.{◌≡◌, ℕ, zero, suc, ◌+◌, ◌<◌, List, [], ◌∷◌, ◌++◌, length, take, get_or, map, append_assoc, sym, ap, subst, ◌∙◌, arith, add-zero}
use Rattle.std.specs.List.{flat_map}
use Rattle.std.specs.Fmt.{decimal}
use Rattle.std.proofs.lemmas.List.{take_more, length-take}
use Rattle.std.proofs.lemmas.List.Folds.{flat_map-map}
use Rattle.sl_core.specs.declared.tree.Core.{Core}
use Rattle.sl_core.specs.declared.tree.CoreExpr.{CoreExpr}
use Rattle.sl_core.specs.declared.tree.CoreStmt.{CoreStmt}
use Rattle.sl_core.specs.declared.tree.CoreStmt.TheVariants as stmt
use Rattle.sl_core.specs.declared.tree.CoreFun.{CoreFun}
use Rattle.c_tree.specs.declared.tree.CVar.{CVar}
use Rattle.c_tree.specs.declared.tree.CStmt.TheVariants.{If, Loop}
use Rattle.sl_frames.specs.Translated.{declared, named_from, of_each, with_value, else_of, joined, stmts_of}
use Rattle.sl_frames.proofs.Variants.{stmts_of_if, stmts_of_loop}

-- one more name, from any number on
named_from_last : (name : ℕ → List ℕ) (first count : ℕ) → named_from name first (suc count) ≡ named_from name first count ++ declared (name (first + count)) ∷ []
named_from_last name first zero = ap (λ n. declared (name n) ∷ []) (sym (add-zero first))
named_from_last name first (suc count) =
    ap (λ rest. declared (name first) ∷ rest)
    (named_from_last name (suc first) count ∙ (let at : suc first + count ≡ first + suc count = omega arith in ap (λ n. named_from name (suc first) count ++ declared (name n) ∷ []) at))

-- one more name
named_from_more : (name : ℕ → List ℕ) (count : ℕ) → named_from name 0 (count + 1) ≡ named_from name 0 count ++ declared (name count) ∷ []
named_from_more name count =
    let next : count + 1 ≡ suc count = omega arith in
    let at : 0 + count ≡ count = omega arith in
    ap (named_from name 0) next ∙ (named_from_last name 0 count ∙ ap (λ n. named_from name 0 count ++ declared (name n) ∷ []) at)

-- one more variable is declared
pub declares_more : (text : List ℕ) (first vars last : List CVar) (number : ℕ) (name : List ℕ)
    → vars ≡ first ++ named_from (λ n. text ++ decimal n) 0 number
    → name ≡ text ++ decimal number
    → last ≡ vars ++ declared name ∷ []
    → last ≡ first ++ named_from (λ n. text ++ decimal n) 0 (number + 1)
declares_more text first vars last number name so named more =
    more
    ∙ (ap (λ n. vars ++ declared n ∷ []) named
    ∙ (ap (λ vs. vs ++ declared (text ++ decimal number) ∷ []) so
    ∙ (append_assoc first (named_from (λ n. text ++ decimal n) 0 number) (declared (text ++ decimal number) ∷ [])
    ∙ ap (λ vs. first ++ vs) (sym (named_from_more (λ n. text ++ decimal n) number)))))

-- something of one more function, from any number on
of_each_last : {A : Type 0} (of : ℕ → CoreFun → A) (first : ℕ) (xs : List CoreFun) (x : CoreFun) → of_each of first (xs ++ x ∷ []) ≡ of_each of first xs ++ of (first + length xs) x ∷ []
of_each_last of first [] x = ap (λ n. of n x ∷ []) (sym (add-zero first))
of_each_last of first (y ∷ ys) x =
    ap (λ rest. of first y ∷ rest)
    (of_each_last of (suc first) ys x ∙ (let at : suc first + length ys ≡ first + suc (length ys) = omega arith in ap (λ n. of_each of (suc first) ys ++ of n x ∷ []) at))

-- the first items, and one more
one_more : {X : Type 0} (xs : List X) (i : ℕ) (x d : X) → i < length xs → x ≡ get_or xs i d → take (i + 1) xs ≡ take i xs ++ x ∷ []
one_more xs i x d within is = take_more xs i d within ∙ ap (λ y. take i xs ++ y ∷ []) (sym is)

-- something of one more function
of_each_more : {A : Type 0} (of : ℕ → CoreFun → A) (xs : List CoreFun) (i : ℕ) (x : CoreFun) → i < length xs → x ≡ get_or xs i x → of_each of 0 (take (i + 1) xs) ≡ of_each of 0 (take i xs) ++ of i x ∷ []
of_each_more of xs i x within is =
    ap (of_each of 0) (one_more xs i x x within is)
    ∙ (of_each_last of 0 (take i xs) x ∙ (let at : 0 + length (take i xs) ≡ i = omega (arith, length-take i xs) in ap (λ n. of_each of 0 (take i xs) ++ of n x ∷ []) at))

-- something of one more function is added
pub of_each_added : {A : Type 0} (of : ℕ → CoreFun → A) (xs items : List CoreFun) (i : ℕ) (x : CoreFun) (first middle last : List A) (y : A)
    → items ≡ xs
    → i < length items
    → x ≡ get_or items i x
    → middle ≡ first ++ of_each of 0 (take i xs)
    → y ≡ of i x
    → last ≡ middle ++ y ∷ []
    → last ≡ first ++ of_each of 0 (take (i + 1) xs)
of_each_added of xs items i x first middle last y same within is so y_is more =
    more
    ∙ (ap (λ z. middle ++ z ∷ []) y_is
    ∙ (ap (λ zs. zs ++ of i x ∷ []) so
    ∙ (append_assoc first (of_each of 0 (take i xs)) (of i x ∷ [])
    ∙ ap (λ zs. first ++ zs) (sym (of_each_more of xs i x (subst (λ l. i < length l) same within) (subst (λ l. x ≡ get_or l i x) same is))))))

-- the C of a choice, with that of its statements one behind another
pub stmts_of_choice : (core : Core) (test : CoreExpr) (chosen other : List CoreStmt)
    → stmts_of core (stmt.If test chosen other)
    ≡ with_value test (λ value. If value (flat_map (stmts_of core) chosen) (else_of (flat_map (stmts_of core) other)))
stmts_of_choice core test chosen other =
    stmts_of_if core test chosen other
    ∙ (ap (λ stmts. with_value test (λ value. If value stmts (else_of (joined (map (stmts_of core) other))))) (flat_map-map (λ block. block) (stmts_of core) chosen)
    ∙ ap (λ stmts. with_value test (λ value. If value (flat_map (stmts_of core) chosen) (else_of stmts))) (flat_map-map (λ block. block) (stmts_of core) other))

-- the C of a loop, with that of its statements one behind another
pub stmts_of_rounds : (core : Core) (stmts : List CoreStmt) → stmts_of core (stmt.Loop stmts) ≡ Loop (flat_map (stmts_of core) stmts) ∷ []
stmts_of_rounds core stmts = stmts_of_loop core stmts ∙ ap (λ block. Loop block ∷ []) (flat_map-map (λ block. block) (stmts_of core) stmts)
