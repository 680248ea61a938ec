-- Lists from the other end.
use Rattle.std.proofs.Common.{◌≡◌, ℕ, ◌-◌, ◌<◌, ℤ, List, [], ◌∷◌, ◌++◌, length, Option, refl, sym, ap, ◌∙◌, arith, get_or}
use Rattle.std.specs.Prelude.{slice_set, reverse}
use Rattle.std.proofs.Math.Seq.{set-append_seam}
use Rattle.std.proofs.lemmas.List.{reverse-append, length-append, reverse-reverse}
use Rattle.c_machine.specs.declared.program.Frame.{Frame}
use Rattle.c_machine.specs.State.{cells_of, with_cells}

-- the last one
get_or_last : (front : List Frame) (y d : Frame) → get_or (front ++ y ∷ []) (length front) d ≡ y
get_or_last [] y d = refl
get_or_last (x ∷ front) y d = get_or_last front y d

-- a list that isn't empty has a last one
has_last : (ys xs : List Frame) → reverse xs ≡ ys → 0 < length xs → (front : List Frame) × (y : Frame) × (xs ≡ front ++ y ∷ [])
has_last [] xs e h = absurd (omega (arith, ap length (sym (reverse-reverse xs) ∙ ap reverse e)))
has_last (y ∷ ys) xs e h = (reverse ys, y, sym (reverse-reverse xs) ∙ (ap reverse e ∙ reverse-append (y ∷ []) ys))

-- the last of some frames, as they were pushed, is the first from the top: what is written in it
pub last_written : (xs : List Frame) (frame : Frame) (n : ℕ) (change : List (Option ℤ) → List (Option ℤ)) → n ≡ length xs → 0 < n → frame ≡ get_or xs (n - 1) frame → reverse (slice_set xs (n - 1) (record frame { cells = change frame.cells })) ≡ with_cells (change (cells_of (reverse xs))) (reverse xs)
last_written xs frame n change sized h e = at (has_last (reverse xs) xs refl (omega arith))
  where
    at : (front : List Frame) × (y : Frame) × (xs ≡ front ++ y ∷ []) → reverse (slice_set xs (n - 1) (record frame { cells = change frame.cells })) ≡ with_cells (change (cells_of (reverse xs))) (reverse xs)
    at (front, y, is) =
        let place : n - 1 ≡ length front = omega (arith, ap length is, length-append front (y ∷ [])) in
        let same : frame ≡ y = e ∙ ((λ k. get_or (is k) (place k) frame) ∙ get_or_last front y frame) in
        (λ k. reverse (slice_set (is k) (place k) (record frame { cells = change frame.cells })))
        ∙ (ap reverse (set-append_seam front y [] (record frame { cells = change frame.cells }))
        ∙ (reverse-append front (record frame { cells = change frame.cells } ∷ [])
        ∙ (ap (λ (y : Frame). record y { cells = change y.cells } ∷ reverse front) same
        ∙ ap (λ (frames : List Frame). with_cells (change (cells_of frames)) frames) (sym (ap reverse is ∙ reverse-append front (y ∷ []))))))
