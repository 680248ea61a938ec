-- The state of a run of a resolved program: what its globals hold, and the frames of the functions that have begun and not yet
-- ended, the last one first. It is the memory of c_tree where each variable is a number or unwritten, without the bytes of frames.
use Rattle.std.specs.Prelude.{ℕ, ℤ, List, [], ◌∷◌, ◌++◌, Bool, true, false, Option, None, Some, map, drop, replicate, slice_get, slice_set}
use Rattle.std.specs.Option.{option_and_then}
use Rattle.c_machine.specs.declared.program.Frame.{Frame}
use Rattle.c_machine.specs.declared.program.Slot.{Slot}
use Rattle.c_machine.specs.declared.program.Slot.TheVariants.{Local, Global, Undeclared}

pub record State : Type 0 where
  pub globals : List (Option ℤ)
  pub frames : List Frame

-- whose the last frame is. With no frame nothing runs, and the number says nothing
abbrev pub owner_of : List Frame → ℕ
owner_of [] = 0
owner_of (frame ∷ frames) = frame.owner

-- what the last frame holds
abbrev pub cells_of : List Frame → List (Option ℤ)
cells_of [] = []
cells_of (frame ∷ frames) = frame.cells

-- the frames with something else in the last one
abbrev pub with_cells : List (Option ℤ) → List Frame → List Frame
with_cells cells [] = []
with_cells cells (frame ∷ frames) = record frame { cells = cells } ∷ frames

-- the number that is held in these, where it was written
abbrev pub number_at : List (Option ℤ) → ℕ → Option ℤ
number_at cells number = option_and_then (λ held. held) (slice_get cells number)

-- what a variable holds, where it was written
abbrev pub held : Slot → State → Option ℤ
held (Local number) state = number_at (cells_of state.frames) number
held (Global number) state = number_at state.globals number
held Undeclared state = None

-- the state with a number in a variable. Where there is no such variable nothing changes
abbrev pub with_held : Slot → ℤ → State → State
with_held (Local number) value state = record state { frames = with_cells (slice_set (cells_of state.frames) number (Some value)) state.frames }
with_held (Global number) value state = record state { globals = slice_set state.globals number (Some value) }
with_held Undeclared value state = state

-- whether a variable is declared
abbrev pub is_declared : Slot → Bool
is_declared (Local number) = true
is_declared (Global number) = true
is_declared Undeclared = false

-- a frame begins, with these arguments and so many variables behind them
abbrev pub with_frame : (owner vars : ℕ) → List ℤ → State → State
with_frame owner vars arguments state = record state { frames = record { owner = owner; cells = map Some arguments ++ replicate vars None } ∷ state.frames }

-- the last frame ends
abbrev pub without_frame : State → State
without_frame state = record state { frames = drop 1 state.frames }
