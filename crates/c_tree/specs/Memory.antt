-- The memory of a C program: its globals, and the frames of the functions that have begun and not yet ended, the last one
-- first. What a place holds is a tree: a struct has its members below it and an array its elements, by their numbers.
use Rattle.std.specs.Prelude.{ℕ, ℤ, List, [], ◌∷◌, Option, Some, None, map, sum, drop, length, slice_get, slice_set, unwrap_or, option_and_then, if◌then◌else◌, ◌==◌}

-- a step from a place to one in it: to a member of a struct, to an element of an array, or to a member of a union, by number
pub data PathStep : Type 0 where
  Member : ℕ → PathStep
  Element : ℕ → PathStep
  Choice : ℕ → PathStep

-- the globals, or the frame below which so many frames stand
pub data Frames : Type 0 where
  Globals : Frames
  FrameAt : ℕ → Frames

-- where something is: a frame, one of its variables by number, its parameters first, and the way to a place in it
pub record Pointer : Type 0 where
  pub frame : Frames
  pub variable : ℕ
  pub path : List PathStep

-- what a place holds
pub data Tree : Type 0 where
  -- nothing was written here, nor anywhere in it
  Unwritten : Tree
  -- a number, where the place is an integer
  Number : ℤ → Tree
  -- a pointer, where the place is one
  Address : Pointer → Tree
  -- the parts of a struct or of an array, by number
  Parts : (ℕ → Tree) → Tree
  -- a union, with the number of its active member
  Active : ℕ → Tree → Tree

-- a part of a struct or of an array
abbrev pub part : Tree → ℕ → Tree
part (Parts parts) n = parts n
part other n = Unwritten

-- a member of a union, where it is the active one
abbrev pub active : Tree → ℕ → Option Tree
active (Active m tree) n = if m == n then Some tree else None
active other n = None

-- what is at the end of a way, where no member of a union on it is inactive
abbrev pub tree_at : List PathStep → Tree → Option Tree
tree_at [] tree = Some tree
tree_at (Member n ∷ path) tree = tree_at path (part tree n)
tree_at (Element n ∷ path) tree = tree_at path (part tree n)
tree_at (Choice n ∷ path) tree = option_and_then (λ inner. tree_at path inner) (active tree n)

-- the tree with something new at the end of a way. Each member of a union on the way becomes the active one, unwritten if it
-- wasn't
abbrev pub tree_with : List PathStep → Tree → Tree → Tree
tree_with [] new tree = new
tree_with (Member n ∷ path) new tree = Parts (λ m. if m == n then tree_with path new (part tree n) else part tree m)
tree_with (Element n ∷ path) new tree = Parts (λ m. if m == n then tree_with path new (part tree n) else part tree m)
tree_with (Choice n ∷ path) new tree = Active n (tree_with path new (unwrap_or (active tree n) Unwritten))

-- the frame of a function that has begun: the number of the function that isn't inline whose frame it is, or below whose frame
-- it is; how many live bytes it counts, which is none for an inline function, since its caller's charge has them; and what its
-- parameters and variables hold
pub record Frame : Type 0 where
  pub owner : ℕ
  pub bytes : ℕ
  pub vars : List Tree

pub record Memory : Type 0 where
  pub globals : List Tree
  pub frames : List Frame

-- the live bytes: those of all frames
abbrev pub live : Memory → ℕ
live memory = sum (map (λ frame. frame.bytes) memory.frames)

-- whose the last frame is. With no frame nothing runs, and the number says nothing
abbrev pub owner_of : List Frame → ℕ
owner_of [] = 0
owner_of (frame ∷ frames) = frame.owner

-- a frame begins
abbrev pub with_frame : Frame → Memory → Memory
with_frame frame memory = record memory { frames = frame ∷ memory.frames }

-- the last frame ends
abbrev pub without_frame : Memory → Memory
without_frame memory = record memory { frames = drop 1 memory.frames }

-- Places --------------------------------------------------------------------------------------------------------------

-- what the variables of a frame hold, of the frame below which so many stand
abbrev pub vars_at : List Frame → ℕ → List Tree
vars_at [] below = []
vars_at (frame ∷ frames) below = if length frames == below then frame.vars else vars_at frames below

-- the frames with other variables in one of them
abbrev pub with_vars_at : List Frame → ℕ → List Tree → List Frame
with_vars_at [] below vars = []
with_vars_at (frame ∷ frames) below vars = if length frames == below then record frame { vars = vars } ∷ frames else frame ∷ with_vars_at frames below vars

-- the variables where a pointer leads
abbrev pub variables : Frames → Memory → List Tree
variables Globals memory = memory.globals
variables (FrameAt below) memory = vars_at memory.frames below

abbrev pub with_variables : Frames → List Tree → Memory → Memory
with_variables Globals vars memory = record memory { globals = vars }
with_variables (FrameAt below) vars memory = record memory { frames = with_vars_at memory.frames below vars }

-- what a place holds, where no member of a union on the way is inactive
abbrev pub held : Pointer → Memory → Option Tree
held pointer memory = option_and_then (λ tree. tree_at pointer.path tree) (slice_get (variables pointer.frame memory) pointer.variable)

-- the memory with something new at a place
abbrev pub with_held : Pointer → Tree → Memory → Memory
with_held pointer new memory =
    let vars = variables pointer.frame memory in
    with_variables pointer.frame (slice_set vars pointer.variable (tree_with pointer.path new (unwrap_or (slice_get vars pointer.variable) Unwritten))) memory

-- how many frames stand below the last one
abbrev pub below_last : List Frame → ℕ
below_last [] = 0
below_last (frame ∷ frames) = length frames
