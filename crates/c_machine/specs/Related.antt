-- When a resolved program goes as the C that it was resolved from: the state of its run is the memory of C without the bytes of
-- frames, with a number or nothing in each variable.
use Rattle.std.specs.Prelude.{◌≡◌, ℕ, ℤ, List, [], ◌∷◌, Option, None, Some, map, length, option_map}
use Rattle.sl_run.specs.Run.{Trace, Act, pure, ◌>>◌}
use Rattle.sl_run.specs.Alike.{Follows, AnyCopies, Same}
use Rattle.c_tree.specs.declared.tree.CArg.{CArg}
use Rattle.c_tree.specs.declared.tree.CExpr.{CExpr}
use Rattle.c_tree.specs.declared.tree.CPlace.{CPlace}
use Rattle.c_tree.specs.declared.tree.CStmt.{CStmt}
use Rattle.c_tree.specs.Memory.{Tree, Unwritten, Number, Memory}
use Rattle.c_tree.specs.Memory as c_memory
use Rattle.c_tree.specs.Parts.{argument_of}
use Rattle.c_tree.specs.Scope.{Scope}
use Rattle.c_tree.specs.Meaning.{Flow, Callees, evaluate}
use Rattle.c_tree.specs.Meaning as c
use Rattle.c_machine.specs.declared.program.Word.{Word}
use Rattle.c_machine.specs.declared.program.Frame.{Frame}
use Rattle.c_machine.specs.declared.program.Expr.{Expr}
use Rattle.c_machine.specs.declared.program.Slot.{Slot}
use Rattle.c_machine.specs.declared.program.Stmt.{Stmt}
use Rattle.c_machine.specs.declared.program.Stmt.TheVariants as stmt
use Rattle.c_machine.specs.State.{State}
use Rattle.c_machine.specs.Values.{value}
use Rattle.c_machine.specs.Meaning.{stuck, Calls, begin_inline, body, meaning}
use Rattle.c_machine.specs.declared.scopes.Place.{Place}
use Rattle.c_machine.specs.declared.scopes.Callee.{Callee}
use Rattle.c_machine.specs.declared.scopes.Callee.TheVariants.{Numbered, Inline, Unknown}
use Rattle.c_machine.specs.Naming.{name_of, ArePlaces}

-- two lists are equally long, and each two elements at one place are related
abbrev pub Pairwise : {A B : Type 0} → (A → B → Type 0) → List A → List B → Type 0
Pairwise related [] [] = Unit {0}
Pairwise related (x ∷ xs) (y ∷ ys) = related x y × Pairwise related xs ys
Pairwise related [] (y ∷ ys) = ⊥
Pairwise related (x ∷ xs) [] = ⊥

-- States --------------------------------------------------------------------------------------------------------------

-- what a variable of C holds
abbrev pub tree_of : Option ℤ → Tree
tree_of None = Unwritten
tree_of (Some number) = Number number

-- a frame is one of C, whatever bytes that has
pub record FrameFits (frame : Frame) (other : c_memory.Frame) : Type 0 where
  pub owner : frame.owner ≡ other.owner
  pub cells : map tree_of frame.cells ≡ other.vars

-- a state is a memory of C with so many frames
pub record Fits (depth : ℕ) (state : State) (memory : Memory) : Type 0 where
  pub globals : map tree_of state.globals ≡ memory.globals
  pub frames : Pairwise FrameFits state.frames memory.frames
  pub begun : length memory.frames ≡ depth

-- two parts go alike from fitting states to fitting states, with as many frames
abbrev pub GoesAs : {A : Type 0} → ℕ → Act State A → Act Memory A → Type 0
GoesAs depth a b = Follows AnyCopies (Fits depth) Same a b

-- Expressions ---------------------------------------------------------------------------------------------------------

-- a number of 64 bits, in the meaning of C
abbrev pub word_of : Word → c.Word
word_of word = record { signed = word.signed; number = word.number }

-- what C computes where an expression has this value
abbrev pub computed : Option Word → Act Memory c.Word
computed given = c.with_some (option_map word_of given) pure

-- a value is that of an expression of C in fitting states
pub record ComputesAs (scope : Scope) (e : CExpr) (resolved : Expr) : Type 0 where
  pub same : (depth : ℕ) (state : State) (memory : Memory) → Fits depth state memory → (t : Trace) → evaluate scope e t memory ≡ computed (value resolved state) t memory

-- a value is that of an expression of C, where names mean these places
pub record ValueIs (places : List ℕ → Place) (e : CExpr) (resolved : Expr) : Type 0 where
  pub computes : (scope : Scope) → ArePlaces scope places → ComputesAs scope e resolved

-- so are those of the arguments of a call
abbrev pub ArgumentsAre : (List ℕ → Place) → List CArg → List Expr → Type 0
ArgumentsAre places arguments resolved = Pairwise (λ argument e. ValueIs places (argument_of argument) e) arguments resolved

-- Calls ---------------------------------------------------------------------------------------------------------------

-- what a call does that leads there
abbrev pub call_of : Callee → Calls → List ℤ → Act State (Option ℤ)
call_of (Numbered number) call numbers = call number numbers
call_of (Inline function) call numbers = begin_inline function.vars numbers >> body function.gives (map meaning function.body) call
call_of Unknown call numbers = stuck

-- calls that lead to these do what calls of names do in C
abbrev pub AreCallees : (List ℕ → Callee) → Calls → Callees → Type 0
AreCallees callees call by_name = (name : List ℕ) (depth : ℕ) (numbers : List ℤ) → GoesAs depth (call_of (callees name) call numbers) (by_name name (map Number numbers))

-- Statements ----------------------------------------------------------------------------------------------------------

-- a statement does what one of C does, where names mean these places and calls lead to these functions
pub record DoesAs (places : List ℕ → Place) (callees : List ℕ → Callee) (stmt : CStmt) (resolved : Stmt) : Type 0 where
  pub goes : (scope : Scope) → ArePlaces scope places → (call : Calls) (by_name : Callees) → AreCallees callees call by_name → (depth : ℕ) → GoesAs depth (meaning resolved call) (c.meaning scope stmt by_name)

-- statements in order do
abbrev pub DoAs : (List ℕ → Place) → (List ℕ → Callee) → List CStmt → List Stmt → Type 0
DoAs places callees stmts resolved = Pairwise (DoesAs places callees) stmts resolved

-- the variable for the result of a call
abbrev pub target_slot : (List ℕ → Place) → Option CPlace → Option Slot
target_slot places target = option_map (λ place. (places (name_of place)).slot) target

-- the statement of a call that leads there
abbrev pub call_stmt : Option Slot → List Expr → Callee → Stmt
call_stmt target arguments (Numbered number) = stmt.Call target arguments number
call_stmt target arguments (Inline function) = stmt.Inline target arguments function.vars function.gives function.body
call_stmt target arguments Unknown = stmt.Undefined
