-- What stands in loops, one form at a time.
use Rattle.std.proofs.Common.{◌≡◌, ℕ, ◌+◌, ◌<◌, ◌≤◌, List, [], ◌∷◌, ◌++◌, Bool, true, false, ◌||◌, refl, sym, ap, ◌∙◌, length, get_or, take, map}
use Rattle.std.specs.Borrow.{Bor}
use Rattle.std.proofs.lemmas.List.{take_more, take_all}
use Rattle.std.proofs.lemmas.List.Folds.{list_any-append}
use Rattle.std.specs.List.{list_any}
use Rattle.c_tree.specs.declared.tree.CStmt.{CStmt}
use Rattle.c_tree.specs.Rules.{some_are, any_with, recounts}
use Rattle.c_rules.specs.Loops.{names_seen}
use Rattle.c_tree.proofs.Variants.{strays_of_assign, strays_of_call, strays_of_if, strays_of_if_else, strays_of_loop, strays_of_count, strays_of_break, strays_of_return, strays_of_put, strays_of_get, strays_of_halt, recounts_of_assign, recounts_of_call, recounts_of_if, recounts_of_if_else, recounts_of_loop, recounts_of_count, recounts_of_break, recounts_of_return, recounts_of_put, recounts_of_get, recounts_of_halt}

or_false : (b : Bool) → b || false ≡ b
or_false true = refl
or_false false = refl

-- whether some of them are so, by the test that finds it
pub some_map : {A : Type 0} (so : A → Bool) (xs : List A) → some_are (map so xs) ≡ list_any so xs
some_map so [] = refl
some_map so (x ∷ xs) = ap (λ rest. so x || rest) (some_map so xs)

pub any_map : (names : List (List ℕ)) (stmts : List CStmt) → any_with names (map recounts stmts) ≡ list_any (λ s. recounts s names) stmts
any_map names [] = refl
any_map names (s ∷ stmts) = ap (λ rest. recounts s names || rest) (any_map names stmts)

-- whether one of the names as the code has them is so
pub any_seen : (so : List ℕ → Bool) (names : List (Bor (List ℕ))) → list_any so (names_seen names) ≡ list_any (λ name. so name.now) names
any_seen so [] = refl
any_seen so (name ∷ names) = ap (λ rest. so name.now || rest) (any_seen so names)

-- one more of them, as at a step of a loop
pub any_more : {A : Type 0} (so : A → Bool) (xs : List A) (i : ℕ) (x : A) (some now next : Bool) → i < length xs → x ≡ get_or xs i x → some ≡ list_any so (take i xs) → now ≡ so x → next ≡ some || now → next ≡ list_any so (take (i + 1) xs)
any_more so xs i x some now next less is so_far this gives =
    let last : so x || false ≡ now = or_false (so x) ∙ sym this
    in gives ∙ (ap (λ some. some || now) so_far ∙ (ap (λ rest. list_any so (take i xs) || rest) (sym last)
    ∙ (sym (list_any-append so (take i xs) (x ∷ [])) ∙ ap (list_any so) (ap (λ y. take i xs ++ y ∷ []) is ∙ sym (take_more xs i x less)))))

-- all of them, as at the end of a loop
pub any_all : {A : Type 0} (so : A → Bool) (xs : List A) (i : ℕ) (some : Bool) → length xs ≤ i → some ≡ list_any so (take i xs) → some ≡ list_any so xs
any_all so xs i some whole so_far = so_far ∙ ap (list_any so) (take_all i xs whole)

pub ruleset strays_all = (some_map, strays_of_assign, strays_of_call, strays_of_if, strays_of_if_else, strays_of_loop, strays_of_count, strays_of_break, strays_of_return, strays_of_put, strays_of_get, strays_of_halt)

pub ruleset recounts_all = (any_map, any_seen, recounts_of_assign, recounts_of_call, recounts_of_if, recounts_of_if_else, recounts_of_loop, recounts_of_count, recounts_of_break, recounts_of_return, recounts_of_put, recounts_of_get, recounts_of_halt)
