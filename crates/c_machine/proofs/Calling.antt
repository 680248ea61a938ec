-- Resolved functions do what those of C do.
use Rattle.std.proofs.Common.{◌≡◌, ℕ, ℤ, zero, suc, List, [], ◌∷◌, ◌++◌, Option, None, Some, map, length, Bool, true, false, ◌&&◌, if◌then◌else◌, refl, ap, ◌∙◌, arith}
use Rattle.std.specs.Prelude.{replicate, drop}
use Rattle.std.specs.Str.{bytes_eq}
use Rattle.sl_run.specs.Run.{Trace, Step, Went, Over, Act, step_then, ◌>>=◌, ◌>>◌, choose}
use Rattle.sl_run.specs.Alike.{SameSoFar, AlikeUnless, AnyCopies, Same, NoneExcused}
use Rattle.sl_run.proofs.Alike.{pure_follows}
use Rattle.c_tree.specs.declared.tree.CFile.{CFile}
use Rattle.c_tree.specs.declared.tree.CFun.{CFun}
use Rattle.c_tree.specs.declared.tree.CType.{CType}
use Rattle.c_tree.specs.declared.tree.CType.TheVariants.{Int, Void}
use Rattle.c_tree.specs.Memory.{Number, Unwritten, Memory}
use Rattle.c_tree.specs.Memory as c_memory
use Rattle.c_tree.specs.Scope.{scope_of}
use Rattle.sl_run.specs.Statements.{Next, Broke, Returned, in_order}
use Rattle.c_tree.specs.Meaning.{Flow, Callees, block, inline_callees}
use Rattle.c_tree.specs.Meaning as c
use Rattle.c_rules.specs.declared.naming.Names.{Names}
use Rattle.c_machine.specs.declared.program.Frame.{Frame}
use Rattle.c_machine.specs.declared.program.Function.{Function}
use Rattle.c_machine.specs.declared.scopes.Callee.{Callee}
use Rattle.c_machine.specs.declared.scopes.Variable.{Variable}
use Rattle.c_machine.specs.State.{State, owner_of, with_frame, without_frame}
use Rattle.c_machine.specs.Meaning.{Calls, given, begin, leave, in_frame, body, begin_inline, meaning}
use Rattle.c_machine.specs.Naming.{AreVars, callee_in}
use Rattle.c_rules.specs.Naming.{item_named}
use Rattle.c_machine.specs.Related.{Pairwise, tree_of, FrameFits, Fits, GoesAs, call_of, AreCallees}
use Rattle.c_machine.specs.Resolved.{has_result, FunctionIs, inline_named, AreInlines}
use Rattle.c_machine.proofs.Fitting.{owners_fit}
use Rattle.c_machine.proofs.Going.{goes_same, bind_goes, stuck_goes}
use Rattle.c_machine.proofs.Doing.{block_goes}

-- Frames --------------------------------------------------------------------------------------------------------------

-- unwritten variables
pub unwritten : (n : ℕ) → map tree_of (replicate n None) ≡ replicate n Unwritten
unwritten zero = refl
unwritten (suc n) = ap (λ rest. Unwritten ∷ rest) (unwritten n)

-- what the variables of a new frame hold
begun_cells : (numbers : List ℤ) (n m : ℕ) → n ≡ m → map tree_of (map Some numbers ++ replicate n None) ≡ map Number numbers ++ replicate m Unwritten
begun_cells [] n m same = unwritten n ∙ ap (λ n. replicate n Unwritten) same
begun_cells (number ∷ numbers) n m same = ap (λ rest. Number number ∷ rest) (begun_cells numbers n m same)

-- a frame that begins
begun_fits : (depth owner other bytes n m : ℕ) (numbers : List ℤ) (state : State) (memory : Memory) → owner ≡ other → n ≡ m → Fits depth state memory →
    Fits (suc depth) (with_frame owner n numbers state) (c_memory.with_frame (record { owner = other; bytes = bytes; vars = map Number numbers ++ replicate m Unwritten }) memory)
begun_fits depth owner other bytes n m numbers state memory whose same fits = record {
  globals = fits.globals;
  frames = (record { owner = whose; cells = begun_cells numbers n m same }, fits.frames);
  begun = ap suc fits.begun;
}

-- the frames without the last one
rest_fit : (frames : List Frame) (others : List c_memory.Frame) → Pairwise FrameFits frames others → Pairwise FrameFits (drop 1 frames) (drop 1 others)
rest_fit [] [] h = tt
rest_fit (frame ∷ frames) (other ∷ others) h = h.1
rest_fit [] (other ∷ others) h = absurd h
rest_fit (frame ∷ frames) [] h = absurd h

one_less : (others : List c_memory.Frame) (depth : ℕ) → length others ≡ suc depth → length (drop 1 others) ≡ depth
one_less [] depth h = omega (arith, h)
one_less (other ∷ others) depth h = omega (arith, h)

-- a frame that ends
ended_fits : (depth : ℕ) (state : State) (memory : Memory) → Fits (suc depth) state memory → Fits depth (without_frame state) (c_memory.without_frame memory)
ended_fits depth state memory fits = record {
  globals = fits.globals;
  frames = rest_fit state.frames memory.frames fits.frames;
  begun = one_less memory.frames depth fits.begun;
}

leave_alike : {A : Type 0} (depth : ℕ) (x : Step State A) (y : Step Memory A) → AlikeUnless NoneExcused AnyCopies (Fits (suc depth)) Same x y → AlikeUnless NoneExcused AnyCopies (Fits depth) Same (step_then x leave) (step_then y c.leave)
leave_alike depth (Went v t s) (Went w u m) h = (h.0, h.1, ended_fits depth s m h.2)
leave_alike depth (Over e t) (Over f u) h = h
leave_alike depth (Went v t s) (Over f u) h = absurd h
leave_alike depth (Over e t) (Went w u m) h = absurd h

-- Functions -----------------------------------------------------------------------------------------------------------

-- what a function gives
given_goes : (depth : ℕ) (kind : CType) (flow : Flow) → GoesAs depth (given (has_result kind) flow) (c.given kind flow)
given_goes depth (Int signed width) Next = stuck_goes depth (Option ℤ)
given_goes depth Void Next = pure_follows NoneExcused AnyCopies (Fits depth) Same None None refl
given_goes depth (Int signed width) Broke = stuck_goes depth (Option ℤ)
given_goes depth Void Broke = stuck_goes depth (Option ℤ)
given_goes depth (Int signed width) (Returned value) = pure_follows NoneExcused AnyCopies (Fits depth) Same value value refl
given_goes depth Void (Returned value) = pure_follows NoneExcused AnyCopies (Fits depth) Same value value refl

module _ (file : CFile) (globals : Names Variable) (named : AreVars file.globals globals) (callees : List ℕ → Callee) (function : CFun) (resolved : Function) (is : FunctionIs globals callees function resolved) (call : Calls) (by_name : Callees) (lead : AreCallees callees call by_name) where
  -- the statements of a function
  pub inner_goes : (depth : ℕ) → GoesAs depth (in_frame resolved.gives (map meaning resolved.body) call) (c.in_frame file function by_name)
  inner_goes depth =
      bind_goes depth (in_order (map meaning resolved.body) call) (block (scope_of file function) function.body by_name) (given resolved.gives) (c.given function.result)
      (block_goes is.places callees (scope_of file function) (is.mean file named) call by_name lead depth function.body resolved.body is.body)
      (λ flow. goes_same depth (given resolved.gives flow) (given (has_result function.result) flow) (c.given function.result flow) (c.given function.result flow) (ap (λ gives. given gives flow) is.gives) refl (given_goes depth function.result flow))

  -- what goes alike in its frame, whose owner is the same
  pub framed_alike : {A : Type 0} (depth owner other bytes : ℕ) (numbers : List ℤ) → owner ≡ other → (a : Act State A) (b : Act Memory A) → GoesAs (suc depth) a b → (t u : Trace) (state : State) (memory : Memory) → SameSoFar AnyCopies t u → Fits depth state memory →
      AlikeUnless NoneExcused AnyCopies (Fits depth) (Same {A = A}) ((begin owner resolved.vars numbers >> (a >>= leave)) t state) ((c.begin other bytes function (map Number numbers) >> (b >>= c.leave)) u memory)
  framed_alike depth owner other bytes numbers whose a b goes t u state memory same fits =
      leave_alike depth _ _ (goes t u _ _ same (begun_fits depth owner other bytes resolved.vars (length function.vars) numbers state memory whose is.vars fits))

  -- a function in its frame
  pub frame_alike : (depth owner other bytes : ℕ) (numbers : List ℤ) → owner ≡ other → (t u : Trace) (state : State) (memory : Memory) → SameSoFar AnyCopies t u → Fits depth state memory →
      AlikeUnless NoneExcused AnyCopies (Fits depth) (Same {A = Option ℤ}) ((begin owner resolved.vars numbers >> body resolved.gives (map meaning resolved.body) call) t state) ((c.begin other bytes function (map Number numbers) >> c.body file function by_name) u memory)
  frame_alike depth owner other bytes numbers whose = framed_alike depth owner other bytes numbers whose (in_frame resolved.gives (map meaning resolved.body) call) (c.in_frame file function by_name) (inner_goes (suc depth))

  -- an inline function, whose frame belongs to its caller's owner
  pub inline_goes : (depth : ℕ) (numbers : List ℤ) → GoesAs depth (begin_inline resolved.vars numbers >> body resolved.gives (map meaning resolved.body) call) (c.begin_inline function (map Number numbers) >> c.body file function by_name)
  inline_goes depth numbers t u state memory same fits =
      frame_alike depth (owner_of state.frames) (c_memory.owner_of memory.frames) 0 numbers (owners_fit state.frames memory.frames fits.frames) t u state memory same fits

-- Inline functions ----------------------------------------------------------------------------------------------------

module _ (file : CFile) where
  -- none
  pub no_inlines : (inlines : Names Function) → ((name : List ℕ) → item_named inlines name ≡ None) → AreInlines file [] inlines
  no_inlines inlines none call name depth numbers =
      goes_same depth _ (call_of (callee_in None None) call numbers) _ c.stuck (ap (λ found. call_of (callee_in None found) call numbers) (none name)) refl (stuck_goes depth (Option ℤ))

  -- behind a function that isn't inline they are the same
  pub same_inlines : (function : CFun) (functions : List CFun) (inlines : Names Function) → function.inline ≡ false → AreInlines file functions inlines → AreInlines file (function ∷ functions) inlines
  same_inlines function functions inlines plain are call name depth numbers =
      let args = map Number numbers in
      let found = bytes_eq function.name name
      in goes_same depth _ (call_of (inline_named inlines name) call numbers) _ (inline_callees file functions name args) refl
      (ap (λ inline. choose (inline && found) (c.begin_inline function args >> c.body file function (inline_callees file functions)) (inline_callees file functions name args)) plain)
      (are call name depth numbers)

  -- one more goes before those that it can call
  pub more_inlines : (function : CFun) (functions : List CFun) (old new : Names Function) (globals : Names Variable) (resolved : Function) → function.inline ≡ true → AreVars file.globals globals → FunctionIs globals (inline_named old) function resolved → ((name : List ℕ) → item_named new name ≡ (if bytes_eq function.name name then Some resolved else item_named old name)) → AreInlines file functions old → AreInlines file (function ∷ functions) new
  more_inlines function functions old new globals resolved inline named is set are call name depth numbers =
      let args = map Number numbers in
      let found = bytes_eq function.name name
      in goes_same depth _ (call_of (callee_in None (if found then Some resolved else item_named old name)) call numbers) _ (choose found (c.begin_inline function args >> c.body file function (inline_callees file functions)) (inline_callees file functions name args))
      (ap (λ item. call_of (callee_in None item) call numbers) (set name))
      (ap (λ inline. choose (inline && found) (c.begin_inline function args >> c.body file function (inline_callees file functions)) (inline_callees file functions name args)) inline)
      (at found)
    where
      at : (found : Bool) → GoesAs depth (call_of (callee_in None (if found then Some resolved else item_named old name)) call numbers) (choose found (c.begin_inline function (map Number numbers) >> c.body file function (inline_callees file functions)) (inline_callees file functions name (map Number numbers)))
      at true = inline_goes file globals named (inline_named old) function resolved is call (inline_callees file functions) (are call) depth numbers
      at false = are call name depth numbers
