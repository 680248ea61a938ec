-- Where a state fits a memory of C, what is read and written there fits too.
use Rattle.std.proofs.Common.{◌≡◌, ℕ, ℤ, zero, suc, ◌-◌, List, [], ◌∷◌, Option, None, Some, map, length, refl, sym, ap, ◌∙◌, subst, arith, if◌then◌else◌, eq-eqb}
use Rattle.std.specs.Prelude.{slice_get, slice_set}
use Rattle.std.specs.Option.{option_and_then}
use Rattle.c_tree.specs.Memory.{Globals, FrameAt, Frames, Pointer, Tree, Unwritten, Number, Memory, vars_at, with_vars_at, variables, with_variables, below_last}
use Rattle.c_tree.specs.Memory as c_memory
use Rattle.c_tree.specs.Meaning.{number_in}
use Rattle.c_machine.specs.declared.program.Frame.{Frame}
use Rattle.c_machine.specs.declared.program.Slot.{Slot}
use Rattle.c_machine.specs.declared.program.Slot.TheVariants.{Local, Global, Undeclared}
use Rattle.c_machine.specs.State.{State, owner_of, cells_of, with_cells, number_at, held, with_held}
use Rattle.c_machine.specs.Related.{Pairwise, tree_of, FrameFits, Fits}

-- whose the last frame is
pub owners_fit : (frames : List Frame) (others : List c_memory.Frame) → Pairwise FrameFits frames others → owner_of frames ≡ c_memory.owner_of others
owners_fit [] [] h = refl
owners_fit (frame ∷ frames) (other ∷ others) h = h.0.owner
owners_fit [] (other ∷ others) h = absurd h
owners_fit (frame ∷ frames) [] h = absurd h

-- what is read in a list
number_in_map : (cells : List (Option ℤ)) (number : ℕ) → number_in (option_and_then (λ tree. c_memory.tree_at [] tree) (slice_get (map tree_of cells) number)) ≡ number_at cells number
number_in_map [] number = refl
number_in_map (None ∷ cells) zero = refl
number_in_map (Some value ∷ cells) zero = refl
number_in_map (cell ∷ cells) (suc number) = number_in_map cells number

-- what is written in a list
set_in_map : (cells : List (Option ℤ)) (number : ℕ) (value : ℤ) → map tree_of (slice_set cells number (Some value)) ≡ slice_set (map tree_of cells) number (Number value)
set_in_map [] number value = refl
set_in_map (cell ∷ cells) zero value = refl
set_in_map (cell ∷ cells) (suc number) value = ap (λ rest. tree_of cell ∷ rest) (set_in_map cells number value)

-- the place of a variable, where so many frames have begun
abbrev pub pointer_to : ℕ → Slot → Option Pointer
pointer_to depth (Local number) = Some (record { frame = FrameAt (depth - 1); variable = number; path = [] })
pointer_to depth (Global number) = Some (record { frame = Globals; variable = number; path = [] })
pointer_to depth Undeclared = None

-- how many frames stand below the last one
pub below_depth : (frames : List c_memory.Frame) (depth : ℕ) → length frames ≡ depth → below_last frames ≡ depth - 1
below_depth [] depth h = omega (arith, h)
below_depth (frame ∷ frames) depth h = omega (arith, h)

-- what the variables of the last frame hold
vars_last : (frames : List Frame) (others : List c_memory.Frame) → Pairwise FrameFits frames others → vars_at others (below_last others) ≡ map tree_of (cells_of frames)
vars_last [] [] h = refl
vars_last (frame ∷ frames) (other ∷ others) h = ap (λ b. if b then other.vars else vars_at others (length others)) (eq-eqb (length others) (length others) refl) ∙ sym h.0.cells
vars_last [] (other ∷ others) h = absurd h
vars_last (frame ∷ frames) [] h = absurd h

-- the frames with other variables in the last one
with_last : (other : c_memory.Frame) (others : List c_memory.Frame) (vars : List Tree) → with_vars_at (other ∷ others) (length others) vars ≡ record other { vars = vars } ∷ others
with_last other others vars = ap (λ b. if b then record other { vars = vars } ∷ others else other ∷ with_vars_at others (length others) vars) (eq-eqb (length others) (length others) refl)

-- they still fit
set_last : (frames : List Frame) (others : List c_memory.Frame) (cells : List (Option ℤ)) (vars : List Tree) → map tree_of cells ≡ vars → Pairwise FrameFits frames others → Pairwise FrameFits (with_cells cells frames) (with_vars_at others (below_last others) vars)
set_last [] [] cells vars e h = tt
set_last (frame ∷ frames) (other ∷ others) cells vars e h =
    subst (Pairwise FrameFits (record frame { cells = cells } ∷ frames)) (sym (with_last other others vars)) (record { owner = h.0.owner; cells = e }, h.1)
set_last [] (other ∷ others) cells vars e h = absurd h
set_last (frame ∷ frames) [] cells vars e h = absurd h

-- and are as many
as_many : (others : List c_memory.Frame) (vars : List Tree) → length (with_vars_at others (below_last others) vars) ≡ length others
as_many [] vars = refl
as_many (other ∷ others) vars = ap length (with_last other others vars)

module _ (depth : ℕ) (state : State) (memory : Memory) (fits : Fits depth state memory) where
  -- the variables of the frame that begun last
  last_vars : variables (FrameAt (depth - 1)) memory ≡ map tree_of (cells_of state.frames)
  last_vars = ap (vars_at memory.frames) (sym (below_depth memory.frames depth fits.begun)) ∙ vars_last state.frames memory.frames fits.frames

  -- what a variable holds
  pub read_fits : (slot : Slot) → option_and_then (λ pointer. number_in (c_memory.held pointer memory)) (pointer_to depth slot) ≡ held slot state
  read_fits (Local number) = ap (λ vars. number_in (option_and_then (λ tree. c_memory.tree_at [] tree) (slice_get vars number))) last_vars ∙ number_in_map (cells_of state.frames) number
  read_fits (Global number) = ap (λ vars. number_in (option_and_then (λ tree. c_memory.tree_at [] tree) (slice_get vars number))) (sym fits.globals) ∙ number_in_map state.globals number
  read_fits Undeclared = refl

  -- a number in a local variable
  pub local_fits : (number : ℕ) (value : ℤ) → Fits depth (with_held (Local number) value state) (c_memory.with_held (record { frame = FrameAt (depth - 1); variable = number; path = [] }) (Number value) memory)
  local_fits number value =
      let written = slice_set (variables (FrameAt (depth - 1)) memory) number (Number value) in
      let same : map tree_of (slice_set (cells_of state.frames) number (Some value)) ≡ written = set_in_map (cells_of state.frames) number value ∙ ap (λ vars. slice_set vars number (Number value)) (sym last_vars) in
      let below = below_depth memory.frames depth fits.begun
      in record {
        globals = fits.globals;
        frames = subst (λ below. Pairwise FrameFits (with_cells (slice_set (cells_of state.frames) number (Some value)) state.frames) (with_vars_at memory.frames below written)) below (set_last state.frames memory.frames _ written same fits.frames);
        begun = subst (λ below. length (with_vars_at memory.frames below written) ≡ depth) below (as_many memory.frames written ∙ fits.begun);
      }

  -- a number in a global one
  pub global_fits : (number : ℕ) (value : ℤ) → Fits depth (with_held (Global number) value state) (c_memory.with_held (record { frame = Globals; variable = number; path = [] }) (Number value) memory)
  global_fits number value = record {
    globals = set_in_map state.globals number value ∙ ap (λ vars. slice_set vars number (Number value)) fits.globals;
    frames = fits.frames;
    begun = fits.begun;
  }

  -- an undefined case
  pub stuck_fits : owner_of state.frames ≡ c_memory.owner_of memory.frames
  stuck_fits = owners_fit state.frames memory.frames fits.frames
