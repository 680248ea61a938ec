-- Each rule is broken by a small tree.
use Rattle.std.proofs.Common.{◌≡◌, ◌≢◌, ℕ, ◌+◌, ◌^◌, ◌<◌, ◌⊎◌, List, [], ◌∷◌, map, true, false, Some, None, refl, sym, ap, inl, inr, arith, Contains, codes, bytes_eq}
use Rattle.std.specs.List.{list_any, IsDistinct}
use Rattle.c_tree.specs.declared.tree.CArg.TheVariants.{Value}
use Rattle.c_tree.specs.declared.tree.CBinary.TheVariants.{Add}
use Rattle.c_tree.specs.declared.tree.CFile.{CFile}
use Rattle.c_tree.specs.declared.tree.CStruct.{CStruct}
use Rattle.c_tree.specs.declared.tree.CMember.{CMember}
use Rattle.c_tree.specs.declared.tree.CFun.{CFun}
use Rattle.c_tree.specs.declared.tree.CPlace.TheVariants.{Name}
use Rattle.c_tree.specs.declared.tree.CStmt.{CStmt}
use Rattle.c_tree.specs.declared.tree.CStmt.TheVariants.{Call, If, Loop, Count, Break, Return, Put, Get}
use Rattle.c_tree.specs.declared.tree.CType.{CType}
use Rattle.c_tree.specs.declared.tree.CType.TheVariants.{Int, Void}
use Rattle.c_tree.specs.declared.tree.CExpr.{CExpr}
use Rattle.c_tree.specs.declared.tree.CExpr.TheVariants.{Binary, Negate}
use Rattle.c_tree.specs.Parts.{Reads, Action, Assigns, Calls, Tests, Returns, Puts, Gets, Loops, Counts, actions_in}
use Rattle.c_tree.specs.Bytes.{called}
use Rattle.c_tree.specs.Scope.{Scope, scope_of}
use Rattle.c_tree.specs.Rules.{var_names, typed, NamesClash, IsDeclared, CanCount, recounts, some_are, strays, BreaksOutside, BreaksInside, Breaks, AreAlike, IsStart}
use Rattle.c_tree.proofs.Variants.{actions_are, leaves_are, types_are, ends_are, strays_are, recounts_are}
use Rattle.c_tree.proofs.Names.{names_differ}
use Rattle.c_tree.proofs.Lists.{in_none, first_in, second_in, in_same, of_one}
use Rattle.c_tree.proofs.Small.{proto_of, word, function_with, inline_with, start_with, signed, unsigned, named, give, bare_call, set, file_with, start_alone, member_of, struct_alone}

-- What is broken where -----------------------------------------------------------------------------------------------

-- a rule that is broken outside functions is broken on line 7
outside : (file : CFile) (rule : ℕ) → BreaksOutside file rule → Breaks file rule 7
unfolding Breaks
outside file rule broken = inl (refl, broken)

-- a rule that is broken in the first function is broken on its line
in_first : (file : CFile) (rule : ℕ) (function : CFun) (others : List CFun) → file.functions ≡ function ∷ others → BreaksInside file [] function rule → Breaks file rule function.line
unfolding Breaks
in_first file rule function others these broken = inr ([], function, (others, these), refl, broken)

-- a file of one function, with its prototype
abbrev alone : CFun → CFile
alone function = file_with (function ∷ []) (function ∷ [])

-- what is broken in it is broken on line 20
in_alone : (rule : ℕ) (function : CFun) → function.line ≡ 20 → BreaksInside (alone function) [] function rule → Breaks (alone function) rule 20
in_alone rule function line broken = rw (← line) (in_first (alone function) rule function [] refl broken)

-- 10 -----------------------------------------------------------------------------------------------------------------

-- a name twice clashes
twice : (name : List ℕ) → bytes_eq name name ≡ true → NamesClash (name ∷ name ∷ [])
unfolding IsDistinct
twice name same = inl (λ apart. let differ : bytes_eq name name ≡ false = apart.0.0 in cc)

-- a global variable with the name of a function
abbrev global_file : CFile
global_file = record (start_alone (give 0 ∷ [])) { globals = word (codes "sl_main") ∷ [] }

-- breaks 10 on the first line
pub names_outside : Breaks global_file 10 7
names_outside = outside global_file 10 (inl (refl, inr (inl (twice (codes "sl_main") refl))))

-- a function with the name of a word of C
pub reserved_outside : Breaks (file_with [] (function_with (codes "int") Void [] ∷ [])) 10 7
reserved_outside =
    outside (file_with [] (function_with (codes "int") Void [] ∷ [])) 10
    (inl (refl, inr (inl (inr (codes "int", first_in (codes "int") [], (17, omega arith, refl))))))

-- a struct with a member twice
abbrev members_twice : CStruct
members_twice = record { name = codes "s"; members = member_of (codes "a") None ∷ member_of (codes "a") None ∷ [] }

-- breaks 10 on the first line
pub members_outside : Breaks (struct_alone members_twice) 10 7
members_outside = outside (struct_alone members_twice) 10 (inl (refl, inr (inr (inl (members_twice, first_in members_twice [], twice (codes "a") refl)))))

-- a union with a member twice
abbrev union_member : CMember
union_member = record { name = codes "u"; kind = Void; count = None; choice = word (codes "a") ∷ word (codes "a") ∷ [] }

-- in a struct
abbrev union_twice : CStruct
union_twice = record { name = codes "s"; members = union_member ∷ [] }

-- breaks 10 on the first line
pub union_outside : Breaks (struct_alone union_twice) 10 7
union_outside =
    outside (struct_alone union_twice) 10
    (inl (refl, inr (inr (inr (union_twice, union_member, first_in union_twice [], first_in union_member [], twice (codes "a") refl)))))

-- two structs with one name
abbrev structs_twice : CFile
structs_twice = record (struct_alone members_twice) { structs = members_twice ∷ members_twice ∷ [] }

-- break 10 on the first line
pub structs_outside : Breaks structs_twice 10 7
structs_outside = outside structs_twice 10 (inl (refl, inl (twice (codes "s") refl)))

-- a parameter and a variable with one name
abbrev local_twice : CFun
local_twice = record (start_with (give 0 ∷ [])) { params = word (codes "a") ∷ []; vars = word (codes "a") ∷ [] }

-- break 10 on the line of the function
pub names_inside : Breaks (file_with [] (local_twice ∷ [])) 10 20
names_inside = in_first (file_with [] (local_twice ∷ [])) 10 local_twice [] refl (inl (refl, twice (codes "a") refl))

-- 11 -----------------------------------------------------------------------------------------------------------------

-- `sl_main` calls `f`
abbrev caller : CFun
caller = start_with (bare_call (codes "f") ∷ give 0 ∷ [])

-- its one call
caller_calls : called caller ≡ codes "f" ∷ []
caller_calls = simp actions_are

-- nothing declares `f` where there is no such function
not_declared : ¬ IsDeclared (alone caller) [] caller (codes "f")
not_declared (inl declared) = of_one (λ name. name ≢ codes "f") (codes "sl_main") (codes "f") (λ same. cc) declared refl
not_declared (inr (inl itself)) = cc
not_declared (inr (inr before)) = in_none (codes "f") before

-- so the call breaks 11 on the line of the caller
pub undeclared : Breaks (alone caller) 11 20
undeclared = in_alone 11 caller refl (inr (inl (refl, inl (codes "f", in_same caller_calls (first_in (codes "f") []), inl not_declared))))

-- `f` is an inline function behind its caller
abbrev behind_file : CFile
behind_file = file_with (caller ∷ []) (caller ∷ inline_with (codes "f") Void [] ∷ [])

-- it isn't declared where it is called
not_yet_declared : ¬ IsDeclared behind_file [] caller (codes "f")
not_yet_declared (inl declared) = of_one (λ name. name ≢ codes "f") (codes "sl_main") (codes "f") (λ same. cc) declared refl
not_yet_declared (inr (inl itself)) = cc
not_yet_declared (inr (inr before)) = in_none (codes "f") before

-- so the call breaks 11 on the line of the caller
pub behind_its_caller : Breaks behind_file 11 20
behind_its_caller =
    in_first behind_file 11 caller (inline_with (codes "f") Void [] ∷ []) refl
    (inr (inl (refl, inl (codes "f", in_same caller_calls (first_in (codes "f") []), inl not_yet_declared))))

-- `f` calls itself, but its parameter `f` hides it
abbrev hiding : CFun
hiding = record (function_with (codes "f") Void (bare_call (codes "f") ∷ [])) { params = word (codes "f") ∷ [] }

-- its one call
hiding_calls : called hiding ≡ codes "f" ∷ []
hiding_calls = simp actions_are

-- the call breaks 11 on its line
pub hidden_by_parameter : Breaks (alone hiding) 11 20
hidden_by_parameter = in_alone 11 hiding refl (inr (inl (refl, inl (codes "f", in_same hiding_calls (first_in (codes "f") []), inr (first_in (codes "f") [])))))

-- `sl_main` with one action
module _ (s : CStmt) (action : Action) (is : actions_in (s ∷ []) ≡ action ∷ []) where
  -- which is among its actions
  only_action : Contains (actions_in (s ∷ [])) action
  only_action = in_same is (first_in action [])

-- `return a;`
abbrev reading : CStmt
reading = Return (Some (named (codes "a")))

-- a variable that is read isn't declared
pub undeclared_read : Breaks (alone (start_with (reading ∷ []))) 11 20
undeclared_read =
    in_alone 11 (start_with (reading ∷ [])) refl
    (inr (inl (refl, inr (Returns (Some (named (codes "a"))), codes "a", only_action reading (Returns (Some (named (codes "a")))) (simp actions_are), (named (codes "a"), refl, in_same {ys = Reads (Name (codes "a")) ∷ []} (simp leaves_are) (first_in (Reads (Name (codes "a"))) [])), refl))))

-- `a = INT64_C(0);`
abbrev writing : CStmt
writing = set (codes "a") (signed 0)

-- nor is one that is written
pub undeclared_write : Breaks (alone (start_with (writing ∷ []))) 11 20
undeclared_write =
    in_alone 11 (start_with (writing ∷ [])) refl
    (inr (inl (refl, inr (Assigns (Name (codes "a")) (signed 0), codes "a", only_action writing (Assigns (Name (codes "a")) (signed 0)) (simp actions_are), inl refl, refl))))

-- `a = sl_get();`
abbrev getting : CStmt
getting = Get (Name (codes "a"))

-- nor is one in which a byte of the input is stored
pub undeclared_get : Breaks (alone (start_with (getting ∷ []))) 11 20
undeclared_get =
    in_alone 11 (start_with (getting ∷ [])) refl
    (inr (inl (refl, inr (Gets (Name (codes "a")), codes "a", only_action getting (Gets (Name (codes "a"))) (simp actions_are), refl, refl))))

-- `for (a = INT64_C(0); a < 2; a++) { }`
abbrev idling : CStmt
idling = Count (codes "a") (codes "a") 2 (codes "a") []

-- nor is the one that counts
pub undeclared_counter : Breaks (alone (start_with (idling ∷ []))) 11 20
undeclared_counter =
    in_alone 11 (start_with (idling ∷ [])) refl
    (inr (inl (refl, inr (Counts (codes "a") (codes "a") (codes "a") 2, codes "a", only_action idling (Counts (codes "a") (codes "a") (codes "a") 2) (simp actions_are), inl refl, refl))))

-- 13 -----------------------------------------------------------------------------------------------------------------

-- an array without an element
abbrev no_elements : CStruct
no_elements = record { name = codes "s"; members = member_of (codes "a") (Some 0) ∷ [] }

-- breaks 13 on the first line
pub empty_array : Breaks (struct_alone no_elements) 13 7
empty_array =
    outside (struct_alone no_elements) 13
    (inr (inl (refl, (no_elements, first_in no_elements [], inr (member_of (codes "a") (Some 0), 0, first_in (member_of (codes "a") (Some 0)) [], refl, inl refl)))))

-- an array of one element more than 2 ^ 24, each a byte
abbrev many_bytes : CMember
many_bytes = record (member_of (codes "a") (Some (2 ^ 24 + 1))) { kind = Int false 8 }

-- in a struct
abbrev long : CStruct
long = record { name = codes "s"; members = many_bytes ∷ [] }

-- breaks 13 on the first line
pub long_array : Breaks (struct_alone long) 13 7
long_array =
    outside (struct_alone long) 13
    (inr (inl (refl, (long, first_in long [], inr (many_bytes, 2 ^ 24 + 1, first_in many_bytes [], refl, inr (omega arith))))))

-- a struct of more than 2 ^ 24 bytes, of which its array has 2 ^ 21 elements
abbrev wide : CStruct
wide = record { name = codes "s"; members = member_of (codes "a") (Some (2 ^ 21)) ∷ member_of (codes "b") None ∷ [] }

-- breaks 13 on the first line
pub large_struct : Breaks (struct_alone wide) 13 7
large_struct = outside (struct_alone wide) 13 (inr (inl (refl, (wide, first_in wide [], inl (omega arith)))))

-- 14 -----------------------------------------------------------------------------------------------------------------

-- `sl_main` returns the value of an expression
abbrev giving : CExpr → CFun
giving e = start_with (Return (Some e) ∷ [])

-- whose operands don't fit
misfit : (e : CExpr) → ((scope : Scope) → (typed scope e).fits ≡ false) → Breaks (alone (giving e)) 14 20
misfit e not =
    in_alone 14 (giving e) refl
    (inr (inr (inl (refl, (Returns (Some e), e, only_action (Return (Some e)) (Returns (Some e)) (simp actions_are), refl, not (scope_of (alone (giving e)) (giving e)))))))

-- a sum of numbers of two types
pub operands_mixed : Breaks (alone (giving (Binary Add (signed 1) (unsigned 1)))) 14 20
operands_mixed = misfit (Binary Add (signed 1) (unsigned 1)) (λ scope. simp types_are)

-- a number without a sign that is negated
pub unsigned_negated : Breaks (alone (giving (Negate (unsigned 1)))) 14 20
unsigned_negated = misfit (Negate (unsigned 1)) (λ scope. simp types_are)

-- 15 -----------------------------------------------------------------------------------------------------------------

-- `sl_main` returns no value
pub missing_value : Breaks (alone (start_with (Return None ∷ []))) 15 20
missing_value =
    in_alone 15 (start_with (Return None ∷ [])) refl
    (inr (inr (inr (inl (refl, (Returns None, only_action (Return None) (Returns None) (simp actions_are), λ same. cc))))))

-- a function without a result returns a value
pub needless_value : Breaks (alone (function_with (codes "f") Void (give 0 ∷ []))) 15 20
needless_value =
    in_alone 15 (function_with (codes "f") Void (give 0 ∷ [])) refl
    (inr (inr (inr (inl (refl, (Returns (Some (signed 0)), only_action (give 0) (Returns (Some (signed 0))) (simp actions_are), (Int true 64, simp types_are, λ same. cc)))))))

-- `sl_put(UINT64_C(65));`
abbrev put_unsigned : CStmt
put_unsigned = Put (unsigned 65)

-- breaks 15 on the line of the function
pub unsigned_put : Breaks (alone (start_with (put_unsigned ∷ []))) 15 20
unsigned_put =
    in_alone 15 (start_with (put_unsigned ∷ [])) refl
    (inr (inr (inr (inl (refl, (Puts (unsigned 65), only_action put_unsigned (Puts (unsigned 65)) (simp actions_are), (Int false 64, simp types_are, λ same. cc)))))))

-- `a = UINT64_C(65);`, where `a` has a sign
abbrev mistyped : CFun
mistyped = record (start_with (set (codes "a") (unsigned 65) ∷ [])) { vars = word (codes "a") ∷ [] }

-- breaks 15 too
pub unsigned_assigned : Breaks (alone mistyped) 15 20
unsigned_assigned =
    in_alone 15 mistyped refl
    (inr (inr (inr (inl (
      refl,
      (
        Assigns (Name (codes "a")) (unsigned 65),
        only_action (set (codes "a") (unsigned 65)) (Assigns (Name (codes "a")) (unsigned 65)) (simp actions_are),
        (Int true 64, refl, (Int false 64, simp types_are, λ same. cc)),
      ),
    )))))

-- `a = sl_get();`, where `a` has this type
abbrev getting_into : CType → CFun
getting_into kind = record (start_with (getting ∷ [])) { vars = record { name = codes "a"; kind = kind } ∷ [] }

-- breaks it where `a` has a type other than `int64_t`
got_elsewhere : (kind : CType) → kind ≢ Int true 64 → Breaks (alone (getting_into kind)) 15 20
got_elsewhere kind other =
    in_alone 15 (getting_into kind) refl
    (inr (inr (inr (inl (refl, (Gets (Name (codes "a")), only_action getting (Gets (Name (codes "a"))) (simp actions_are), (kind, refl, other)))))))

-- as `uint64_t`
pub unsigned_got : Breaks (alone (getting_into (Int false 64))) 15 20
unsigned_got = got_elsewhere (Int false 64) (λ same. cc)

-- and `uint8_t`
pub byte_got : Breaks (alone (getting_into (Int false 8))) 15 20
byte_got = got_elsewhere (Int false 8) (λ same. cc)

-- 16 -----------------------------------------------------------------------------------------------------------------

-- a function `f` with a parameter of 64 bits with a sign calls itself
abbrev calling_itself : CStmt → CFun
calling_itself call = record (function_with (codes "f") Void (call ∷ [])) { params = word (codes "a") ∷ [] }

-- without an argument it breaks 16 on its line
pub no_argument : Breaks (alone (calling_itself (bare_call (codes "f")))) 16 20
no_argument =
    let itself : CFun = calling_itself (bare_call (codes "f")) in
    in_alone 16 itself refl
    (inr (inr (inr (inr (inl (refl, (itself, None, [], (first_in itself [], only_action (bare_call (codes "f")) (Calls None (codes "f") []) (simp actions_are)), tt)))))))

-- `f(UINT64_C(1));`
abbrev unsigned_call : CStmt
unsigned_call = Call None (codes "f") (Value (unsigned 1) ∷ [])

-- with one of another type it breaks it too
pub other_argument : Breaks (alone (calling_itself unsigned_call)) 16 20
other_argument =
    let itself : CFun = calling_itself unsigned_call in
    in_alone 16 itself refl
    (inr (inr (inr (inr (inl (refl, (itself, None, unsigned 1 ∷ [], (first_in itself [], only_action unsigned_call (Calls None (codes "f") (unsigned 1 ∷ [])) (simp actions_are)), inl (Int false 64, simp types_are, λ same. cc))))))))

-- 17 -----------------------------------------------------------------------------------------------------------------

-- `a = f();`
abbrev taking : CStmt
taking = Call (Some (Name (codes "a"))) (codes "f") []

-- a function `f` with this result and a variable `a` of 64 bits with a sign calls itself, and takes its result
abbrev taking_own : CType → CFun
taking_own result = record (function_with (codes "f") result (taking ∷ [])) { vars = word (codes "a") ∷ [] }

-- where there is none, it breaks 17 on its line
pub void_taken : Breaks (alone (taking_own Void)) 17 20
void_taken =
    let itself : CFun = taking_own Void in
    in_alone 17 itself refl
    (inr (inr (inr (inr (inr (inl (refl, (itself, Name (codes "a"), [], (first_in itself [], only_action taking (Calls (Some (Name (codes "a"))) (codes "f") []) (simp actions_are)), inl refl))))))))

-- where it has another type, it does too
pub other_taken : Breaks (alone (taking_own (Int false 64))) 17 20
other_taken =
    let itself : CFun = taking_own (Int false 64) in
    in_alone 17 itself refl
    (inr (inr (inr (inr (inr (inl (refl, (itself, Name (codes "a"), [], (first_in itself [], only_action taking (Calls (Some (Name (codes "a"))) (codes "f") []) (simp actions_are)), inr (Int true 64, refl, λ same. cc)))))))))

-- 18 -----------------------------------------------------------------------------------------------------------------

-- `if (a) {}`
abbrev testing : CStmt
testing = If (named (codes "a")) [] None

-- where `a` has 8 bits
abbrev testing_byte : CFun
testing_byte = record (start_with (testing ∷ [])) { vars = record { name = codes "a"; kind = Int false 8 } ∷ [] }

-- breaks 18 on the line of the function
pub byte_tested : Breaks (alone testing_byte) 18 20
byte_tested =
    in_alone 18 testing_byte refl
    (inr (inr (inr (inr (inr (inr (inl (refl, (named (codes "a"), Int false 8, only_action testing (Tests (named (codes "a"))) (simp actions_are), simp types_are, refl)))))))))

-- 19 -----------------------------------------------------------------------------------------------------------------

-- an inline function that calls itself
abbrev inline_self : CFun
inline_self = inline_with (codes "f") Void (bare_call (codes "f") ∷ [])

-- its one call
inline_self_calls : called inline_self ≡ codes "f" ∷ []
inline_self_calls = simp actions_are

-- breaks 19 on its line
pub inline_calls_itself : Breaks (alone inline_self) 19 20
inline_calls_itself =
    in_alone 19 inline_self refl
    (inr (inr (inr (inr (inr (inr (inr (inl (
      refl,
      (refl, inr (codes "f", in_same inline_self_calls (first_in (codes "f") []), λ callee before inline named. in_none callee before)),
    )))))))))

-- an inline function that calls one before it that isn't inline
abbrev earlier : CFun
earlier = function_with (codes "g") Void []

-- the one that calls it, on line 30
abbrev inline_caller : CFun
inline_caller = record (inline_with (codes "f") Void (bare_call (codes "g") ∷ [])) { line = 30 }

-- its one call
inline_caller_calls : called inline_caller ≡ codes "g" ∷ []
inline_caller_calls = simp actions_are

-- both, in this order
abbrev inline_file : CFile
inline_file = file_with (earlier ∷ []) (earlier ∷ inline_caller ∷ [])

-- break 19 on the line of the caller
pub inline_calls_other : Breaks inline_file 19 30
unfolding Breaks
inline_calls_other =
    inr (
      earlier ∷ [],
      inline_caller,
      ([], refl),
      refl,
      inr (inr (inr (inr (inr (inr (inr (inl (
        refl,
        (
          refl,
          inr (
            codes "g",
            in_same inline_caller_calls (first_in (codes "g") []),
            λ callee before inline named. of_one (λ function. function.inline ≢ true) earlier callee (λ same. cc) before inline,
          ),
        ),
      )))))))),
    )

-- an inline function that holds `while (1) { }`
abbrev inline_loop : CFun
inline_loop = inline_with (codes "f") Void (Loop [] ∷ [])

-- breaks 19 on its line
pub inline_loops : Breaks (alone inline_loop) 19 20
inline_loops =
    in_alone 19 inline_loop refl
    (inr (inr (inr (inr (inr (inr (inr (inl (refl, (refl, inl (only_action (Loop []) Loops (simp actions_are))))))))))))

-- one that holds it in the block of an `if` and of a `for`
abbrev nested_loop : CStmt
nested_loop = If (signed 1) (Count (codes "a") (codes "a") 2 (codes "a") (Loop [] ∷ []) ∷ []) None

-- with its variable
abbrev inline_nested : CFun
inline_nested = record (inline_with (codes "f") Void (nested_loop ∷ [])) { vars = word (codes "a") ∷ [] }

-- its actions
nested_actions : actions_in inline_nested.body ≡ Tests (signed 1) ∷ Counts (codes "a") (codes "a") (codes "a") 2 ∷ Loops ∷ []
nested_actions = simp actions_are

-- breaks it too
pub inline_loops_inside : Breaks (alone inline_nested) 19 20
inline_loops_inside = in_alone 19 inline_nested refl (inr (inr (inr (inr (inr (inr (inr (inl (refl, (refl, inl (in_same nested_actions (2, omega arith, refl))))))))))))

-- 20 -----------------------------------------------------------------------------------------------------------------

-- a function with these statements, with the variables `a` and `b` of 64 bits with a sign and `c` of 64 bits without one
abbrev with_counters : List CStmt → CFun
with_counters body = record (function_with (codes "f") Void body) { vars = word (codes "a") ∷ word (codes "b") ∷ record { name = codes "c"; kind = Int false 64 } ∷ [] }

-- a `for` with these names and this count
abbrev counting : List ℕ → List ℕ → List ℕ → ℕ → CStmt
counting set tested raised count = Count set tested count raised []

-- its file, with a global `g` of 64 bits with a sign
abbrev counting_file : List CStmt → CFile
counting_file body = record (alone (with_counters body)) { globals = word (codes "g") ∷ [] }

-- breaks 20 on the line of the function, where it counts too far, or its names aren't one, or not that of a variable that can count
miscounted : (set tested raised : List ℕ) (count : ℕ) → (2 ^ 24 < count) ⊎ (tested ≢ set) ⊎ (raised ≢ set) ⊎ (¬ CanCount (with_counters (counting set tested raised count ∷ [])) set)
    → Breaks (counting_file (counting set tested raised count ∷ [])) 20 20
miscounted set tested raised count wrong =
    in_first (counting_file (counting set tested raised count ∷ [])) 20 (with_counters (counting set tested raised count ∷ [])) [] refl
    (inr (inr (inr (inr (inr (inr (inr (inr (inl (refl, inl (set, tested, raised, count, only_action (counting set tested raised count) (Counts set tested raised count) (simp actions_are), wrong)))))))))))

-- a count that is one more than 2 ^ 24
pub far_count : Breaks (counting_file (counting (codes "a") (codes "a") (codes "a") (2 ^ 24 + 1) ∷ [])) 20 20
far_count = miscounted (codes "a") (codes "a") (codes "a") (2 ^ 24 + 1) (inl (omega arith))

-- another name is tested
pub other_tested : Breaks (counting_file (counting (codes "a") (codes "b") (codes "a") 2 ∷ [])) 20 20
other_tested = miscounted (codes "a") (codes "b") (codes "a") 2 (inr (inl (names_differ (codes "b") (codes "a") refl)))

-- another name is raised
pub other_raised : Breaks (counting_file (counting (codes "a") (codes "a") (codes "b") 2 ∷ [])) 20 20
other_raised = miscounted (codes "a") (codes "a") (codes "b") 2 (inr (inr (inl (names_differ (codes "b") (codes "a") refl))))

-- the variable has no sign
pub unsigned_counter : Breaks (counting_file (counting (codes "c") (codes "c") (codes "c") 2 ∷ [])) 20 20
unsigned_counter = miscounted (codes "c") (codes "c") (codes "c") 2 (inr (inr (inr (λ same. cc))))

-- the variable is a global
pub global_counter : Breaks (counting_file (counting (codes "g") (codes "g") (codes "g") 2 ∷ [])) 20 20
global_counter = miscounted (codes "g") (codes "g") (codes "g") 2 (inr (inr (inr (λ same. cc))))

-- `for (a = INT64_C(0); a < 2; a++) { .. }`
abbrev around : List CStmt → CStmt
around body = Count (codes "a") (codes "a") 2 (codes "a") body

-- breaks 20 on the line of the function, where something in its block stores in its variable
recounted : (body : List CStmt) → list_any (λ s. recounts s []) (around body ∷ []) ≡ true → Breaks (counting_file (around body ∷ [])) 20 20
recounted body stores =
    in_first (counting_file (around body ∷ [])) 20 (with_counters (around body ∷ [])) [] refl
    (inr (inr (inr (inr (inr (inr (inr (inr (inl (refl, inr stores))))))))))

-- an assignment
pub counter_assigned : Breaks (counting_file (around (set (codes "a") (signed 0) ∷ []) ∷ [])) 20 20
counter_assigned = recounted (set (codes "a") (signed 0) ∷ []) (simp recounts_are)

-- the result of a call
pub counter_taken : Breaks (counting_file (around (Call (Some (Name (codes "a"))) (codes "f") [] ∷ []) ∷ [])) 20 20
counter_taken = recounted (Call (Some (Name (codes "a"))) (codes "f") [] ∷ []) (simp recounts_are)

-- a byte of the input
pub counter_got : Breaks (counting_file (around (getting ∷ []) ∷ [])) 20 20
counter_got = recounted (getting ∷ []) (simp recounts_are)

-- another `for`
pub counter_counted : Breaks (counting_file (around (around [] ∷ []) ∷ [])) 20 20
counter_counted = recounted (around [] ∷ []) (simp recounts_are)

-- an assignment that stands deeper: `while (1) { for (b = ..) { if (INT64_C(1)) { } else { a = INT64_C(0); } } }`
abbrev deep : CStmt
deep = Loop (Count (codes "b") (codes "b") 2 (codes "b") (If (signed 1) [] (Some (set (codes "a") (signed 0) ∷ [])) ∷ []) ∷ [])

-- breaks it too
pub counter_assigned_inside : Breaks (counting_file (around (deep ∷ []) ∷ [])) 20 20
counter_assigned_inside = recounted (deep ∷ []) (simp recounts_are)

-- but what stands behind the loop may store in its variable, and what stands in it in others
pub behind_the_loop : list_any (λ s. recounts s []) (around (set (codes "b") (signed 0) ∷ []) ∷ set (codes "a") (signed 0) ∷ around [] ∷ []) ≡ false
behind_the_loop = simp recounts_are

-- 21 -----------------------------------------------------------------------------------------------------------------

-- `sl_main` has no statement
pub no_return : Breaks (alone (start_with [])) 21 20
no_return = in_alone 21 (start_with []) refl (inr (inr (inr (inr (inr (inr (inr (inr (inr (refl, inr (λ same. cc, refl)))))))))))

-- `if (INT64_C(1)) { return INT64_C(0); }`
abbrev sometimes : CStmt
sometimes = If (signed 1) (give 0 ∷ []) None

-- it ends with an `if` without `else`
pub return_in_if : Breaks (alone (start_with (sometimes ∷ []))) 21 20
return_in_if = in_alone 21 (start_with (sometimes ∷ [])) refl (inr (inr (inr (inr (inr (inr (inr (inr (inr (refl, inr (λ same. cc, simp ends_are)))))))))))

-- a function with these statements, whose `break` stands in no loop
strayed : (body : List CStmt) → some_are (map strays body) ≡ true → Breaks (alone (function_with (codes "f") Void body)) 21 20
strayed body stray = in_alone 21 (function_with (codes "f") Void body) refl (inr (inr (inr (inr (inr (inr (inr (inr (inr (refl, inl stray))))))))))

-- a `break` by itself
pub break_alone : Breaks (alone (function_with (codes "f") Void (Break ∷ []))) 21 20
break_alone = strayed (Break ∷ []) (simp strays_are)

-- one in the `else` of an `if`
pub break_in_else : Breaks (alone (function_with (codes "f") Void (If (signed 1) [] (Some (Break ∷ [])) ∷ []))) 21 20
break_in_else = strayed (If (signed 1) [] (Some (Break ∷ [])) ∷ []) (simp strays_are)

-- one behind a loop
pub break_behind_loop : Breaks (alone (function_with (codes "f") Void (Loop (Break ∷ []) ∷ Break ∷ []))) 21 20
break_behind_loop = strayed (Loop (Break ∷ []) ∷ Break ∷ []) (simp strays_are)

-- `sl_main` ends with a loop, behind which no return stands
pub loop_at_end : Breaks (alone (start_with (Loop [] ∷ []))) 21 20
loop_at_end = in_alone 21 (start_with (Loop [] ∷ [])) refl (inr (inr (inr (inr (inr (inr (inr (inr (inr (refl, inr (λ same. cc, simp ends_are)))))))))))

-- 22 -----------------------------------------------------------------------------------------------------------------

-- `sl_main` has no prototype
pub no_prototype : Breaks (file_with [] (start_with (give 0 ∷ []) ∷ [])) 22 7
no_prototype =
    outside (file_with [] (start_with (give 0 ∷ []) ∷ [])) 22
    (inr (inr (refl, inl (start_with (give 0 ∷ []), first_in (start_with (give 0 ∷ [])) [], refl, λ one. omega arith))))

-- its prototype has another result
abbrev void_proto : CFun
void_proto = record (function_with (codes "sl_main") Void []) { line = 7 }

-- and an `sl_main` with a value
abbrev void_start : CFile
void_start = file_with (void_proto ∷ []) (start_with (give 0 ∷ []) ∷ [])

-- break 22 on the first line
pub other_result : Breaks void_start 22 7
other_result =
    outside void_start 22
    (inr (inr (
      refl,
      inr (inl (
        void_proto,
        first_in void_proto [],
        λ function among called alike.
            of_one (λ function. ¬ AreAlike void_proto function) (start_with (give 0 ∷ [])) function (λ alike. let same : Void ≡ Int true 64 = alike.result in cc) among alike,
      )),
    )))

-- there is no function at all
pub no_start : Breaks (file_with [] []) 22 7
no_start = outside (file_with [] []) 22 (inr (inr (refl, inr (inr (λ function among. absurd (in_none function among))))))

-- the prototype of a function that isn't there
abbrev alone_proto : CFun
alone_proto = record (function_with (codes "f") Void []) { line = 7 }

-- beside that of `sl_main`
abbrev more_protos : CFile
more_protos = file_with (start_with [] ∷ alone_proto ∷ []) (start_with (give 0 ∷ []) ∷ [])

-- breaks 22 on the first line
pub proto_alone : Breaks more_protos 22 7
proto_alone =
    outside more_protos 22
    (inr (inr (
      refl,
      inr (inl (
        alone_proto,
        second_in (proto_of (start_with [])) alone_proto [],
        λ function among called alike.
            of_one (λ function. ¬ AreAlike alone_proto function) (start_with (give 0 ∷ [])) function (λ alike. let same : codes "f" ≡ codes "sl_main" = alike.name in cc) among alike,
      )),
    )))

-- two prototypes of `sl_main`
abbrev start_twice : CFile
start_twice = file_with (start_with [] ∷ start_with [] ∷ []) (start_with (give 0 ∷ []) ∷ [])

-- break 22 on the first line
pub two_prototypes : Breaks start_twice 22 7
two_prototypes =
    outside start_twice 22 (inr (inr (refl, inl (start_with (give 0 ∷ []), first_in (start_with (give 0 ∷ [])) [], refl, λ one. omega arith))))

-- a function whose parameter has another name than in its prototype
abbrev with_param : List ℕ → CFun
with_param name = record (function_with (codes "f") Void []) { params = word name ∷ [] }

-- and its file
abbrev param_file : CFile
param_file = file_with (with_param (codes "a") ∷ []) (with_param (codes "b") ∷ [])

-- its parameters differ
params_differ : word (codes "a") ∷ [] ≢ word (codes "b") ∷ []
params_differ same =
    let equal : list_any (bytes_eq (codes "a")) (codes "b" ∷ []) ≡ true = sym (ap (λ vars. list_any (bytes_eq (codes "a")) (var_names vars)) same) in cc

-- breaks 22 on the first line
pub other_parameter : Breaks param_file 22 7
other_parameter =
    outside param_file 22
    (inr (inr (
      refl,
      inr (inl (
        proto_of (with_param (codes "a")),
        first_in (proto_of (with_param (codes "a"))) [],
        λ function among called alike.
            of_one (λ function. ¬ AreAlike (proto_of (with_param (codes "a"))) function) (with_param (codes "b")) function
            (λ alike. params_differ alike.params) among alike,
      )),
    )))

-- a file with one function, which isn't one with which a run begins, breaks 22 on the first line
no_start_among : (function : CFun) → ¬ IsStart function → Breaks (file_with (function ∷ []) (function ∷ [])) 22 7
no_start_among function not =
    outside (file_with (function ∷ []) (function ∷ [])) 22 (inr (inr (refl, inr (inr (λ other among. of_one (λ function. ¬ IsStart function) function other not among)))))

-- an `sl_main` that is inline
pub inline_start : Breaks (file_with (inline_with (codes "sl_main") (Int true 64) [] ∷ []) (inline_with (codes "sl_main") (Int true 64) [] ∷ [])) 22 7
inline_start = no_start_among (inline_with (codes "sl_main") (Int true 64) []) (λ is. let same : true ≡ false = is.called in cc)

-- one without a result
pub resultless_start : Breaks (file_with (function_with (codes "sl_main") Void [] ∷ []) (function_with (codes "sl_main") Void [] ∷ [])) 22 7
resultless_start = no_start_among (function_with (codes "sl_main") Void []) (λ is. let same : Void ≡ Int true 64 = is.result in cc)

-- one whose result is a `uint64_t`
pub unsigned_start : Breaks (file_with (function_with (codes "sl_main") (Int false 64) [] ∷ []) (function_with (codes "sl_main") (Int false 64) [] ∷ [])) 22 7
unsigned_start = no_start_among (function_with (codes "sl_main") (Int false 64) []) (λ is. let same : Int false 64 ≡ Int true 64 = is.result in cc)

-- one with a parameter
abbrev start_with_parameter : CFun
start_with_parameter = record (start_with []) { params = word (codes "a") ∷ [] }

-- breaks 22 too
pub parameter_start : Breaks (file_with (start_with_parameter ∷ []) (start_with_parameter ∷ [])) 22 7
parameter_start = no_start_among start_with_parameter (λ is. let same : word (codes "a") ∷ [] ≡ [] = is.params in cc)
