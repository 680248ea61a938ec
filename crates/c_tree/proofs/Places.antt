-- What is read from memory is what was written there, and the bytes that are live are those of the frames.
use Rattle.std.proofs.Common.{◌≡◌, ◌≢◌, ℕ, ◌+◌, List, [], ◌∷◌, ◌++◌, Some, None, refl, sym, ap, ◌∙◌, if◌then◌else◌, eq-eqb, ne_eqb}
use Rattle.std.specs.Prelude.{pos, codes, length, replicate, unwrap_or, option_and_then}
use Rattle.std.proofs.lemmas.List.Sums.{sum-map, sum_by-cons}
use Rattle.sl_run.specs.Run.{Trace, Went}
use Rattle.c_tree.specs.declared.tree.CFun.{CFun}
use Rattle.c_tree.specs.Meaning.{begin, begin_inline, first_memory}
use Rattle.c_tree.specs.declared.tree.CType.TheVariants.{Void}
use Rattle.c_tree.proofs.Kept.{file}
use Rattle.c_tree.proofs.Small.{word, function_with}
use Rattle.c_tree.specs.Memory.{PathStep, Member, Element, Choice, Tree, Unwritten, Number, Frame, Memory, part, active, tree_at, tree_with, live, owner_of, with_frame, without_frame}

-- what was written at a place is read there
pub written_is_read : (path : List PathStep) (new tree : Tree) → tree_at path (tree_with path new tree) ≡ Some new
written_is_read [] new tree = refl
written_is_read (Member n ∷ path) new tree =
    ap (λ same. tree_at path (if same then tree_with path new (part tree n) else part tree n)) (eq-eqb n n refl) ∙ written_is_read path new (part tree n)
written_is_read (Element n ∷ path) new tree =
    ap (λ same. tree_at path (if same then tree_with path new (part tree n) else part tree n)) (eq-eqb n n refl) ∙ written_is_read path new (part tree n)
written_is_read (Choice n ∷ path) new tree =
    ap (λ same. option_and_then (λ inner. tree_at path inner) (if same then Some (tree_with path new (unwrap_or (active tree n) Unwritten)) else None)) (eq-eqb n n refl)
    ∙ written_is_read path new (unwrap_or (active tree n) Unwritten)

-- another member stays what it was
pub other_member_stays : (n m : ℕ) (path : List PathStep) (new tree : Tree) → m ≢ n → part (tree_with (Member n ∷ path) new tree) m ≡ part tree m
other_member_stays n m path new tree other = ap (λ same. if same then tree_with path new (part tree n) else part tree m) (ne_eqb m n other)

-- another element stays what it was
pub other_element_stays : (n m : ℕ) (path : List PathStep) (new tree : Tree) → m ≢ n → part (tree_with (Element n ∷ path) new tree) m ≡ part tree m
other_element_stays n m path new tree other = ap (λ same. if same then tree_with path new (part tree n) else part tree m) (ne_eqb m n other)

-- another member of a union isn't there any more
pub other_choice_is_gone : (n m : ℕ) (path : List PathStep) (new tree : Tree) → m ≢ n → active (tree_with (Choice n ∷ path) new tree) m ≡ None
other_choice_is_gone n m path new tree other =
    ap (λ same. if same then Some (tree_with path new (unwrap_or (active tree n) Unwritten)) else None) (ne_eqb n m (λ same. other (sym same)))

-- a frame that begins is live
pub frame_is_live : (frame : Frame) (memory : Memory) → live (with_frame frame memory) ≡ frame.bytes + live memory
frame_is_live frame memory =
    sum-map (λ frame. frame.bytes) (frame ∷ memory.frames)
    ∙ (sum_by-cons (λ frame. frame.bytes) frame memory.frames
    ∙ ap (λ more. frame.bytes + more) (sym (sum-map (λ frame. frame.bytes) memory.frames)))

-- the frame of an inline function belongs to the function below whose frame it is, and counts no bytes
pub inline_frame : (function : CFun) (args : List Tree) (t : Trace) (memory : Memory) → begin_inline function args t memory ≡ Went tt t (with_frame (record { owner = owner_of memory.frames; bytes = 0; vars = args ++ replicate (length function.vars) Unwritten }) memory)
inline_frame function args t memory = refl

-- in a frame the arguments stand first, and then the variables, which are unwritten
pub arguments_first : (t : Trace) (memory : Memory) → begin 3 24 (record (function_with (codes "f") Void []) { params = word (codes "a") ∷ []; vars = word (codes "b") ∷ [] }) (Number (pos 5) ∷ []) t memory ≡ Went tt t (with_frame (record { owner = 3; bytes = 24; vars = Number (pos 5) ∷ Unwritten ∷ [] }) memory)
arguments_first t memory = refl

-- before a run the globals are unwritten, and no frame has begun
pub globals_unwritten : first_memory file ≡ record { globals = Unwritten ∷ []; frames = [] }
globals_unwritten = refl

-- when it ends, memory is what it was
pub frame_ends : (frame : Frame) (memory : Memory) → without_frame (with_frame frame memory) ≡ memory
frame_ends frame memory = refl
