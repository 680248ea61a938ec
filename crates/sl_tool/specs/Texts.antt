-- The lines of the tool, each ended by a line feed: those of `emit` and `check` on `out`, and those that go with the statuses on `note`.
use Rattle.std.specs.Prelude.{ℕ, ℤ, List, [], ◌++◌, length, unwrap_or, slice_get, ◌==◌, if◌then◌else◌, codes}
use Rattle.std.specs.Fmt.{decimal, signed_decimal}
use Rattle.sl_text.specs.declared.rule.Rule.{Rule}
use Rattle.sl_num.specs.declared.arithmetic.Halt.TheVariants.{Range, Zero}
use Rattle.sl_core.specs.Meaning.{halt_number}
use Rattle.sl_plain.specs.Means.{assert_halt, halt_halt}
use Rattle.sl_text.specs.Rules.{rule_text}

-- `emit`: the name of the file that was written, and how many bytes it has
abbrev pub emitted_line : List ℕ → List ℕ → List ℕ
emitted_line file text = file ++ codes " " ++ decimal (length text) ++ codes " bytes\n"

-- `check`: the files are accepted
abbrev pub accepted_line : List ℕ
accepted_line = codes "accepted\n"

-- 64: the words have no reading
abbrev pub usage_line : List ℕ
usage_line = codes "usage: check, emit, run, step, stack or sample\n"

-- 65: a source breaks a rule, at this line and column
abbrev pub broken_line : List ℕ → ℕ → ℕ → Rule → List ℕ
broken_line file line column rule = file ++ (codes ":" ++ (decimal line ++ (codes ":" ++ (decimal column ++ (codes ": " ++ (rule_text rule ++ codes "\n"))))))

-- the kind of a halt, by the number that the meaning of programs gives it
abbrev pub halt_kind : ℕ → List ℕ
halt_kind kind =
    if kind == assert_halt then codes "Assert"
    else if kind == halt_halt then codes "Halt"
    else if kind == halt_number Range then codes "Range"
    else if kind == halt_number Zero then codes "Zero"
    else []

-- 66: the run halted, at this line of this file
abbrev pub halt_line : ℕ → List ℕ → ℕ → List ℕ
halt_line kind file line = codes "halt " ++ (halt_kind kind ++ (codes " " ++ (file ++ (codes ":" ++ (decimal line ++ codes "\n")))))

-- the name of the file with this number. No program halts in a file that it doesn't have
abbrev pub file_name : List (List ℕ) → ℕ → List ℕ
file_name names number = unwrap_or (slice_get names number) []

-- 67: the run needs more turns than it has
abbrev pub turns_spent_line : List ℕ
turns_spent_line = codes "turns spent\n"

-- 68: the live frames would pass the stack limit
abbrev pub stack_spent_line : List ℕ
stack_spent_line = codes "stack spent\n"

-- 69: the exit value is outside 0 to 63
abbrev pub exit_value_line : ℤ → List ℕ
exit_value_line value = codes "exit value " ++ signed_decimal value ++ codes "\n"

-- 72: a named file isn't there
abbrev pub no_file_line : List ℕ → List ℕ
no_file_line file = codes "no file " ++ file ++ codes "\n"

-- 73: the folder failed
abbrev pub folder_fault_line : List ℕ
folder_fault_line = codes "folder fault\n"

-- 74: the input failed
abbrev pub input_fault_line : List ℕ
input_fault_line = codes "input fault\n"

-- 75: an output failed
abbrev pub output_fault_line : List ℕ
output_fault_line = codes "output fault\n"

-- 76: memory ran out
abbrev pub no_memory_line : List ℕ
no_memory_line = codes "no memory\n"

-- 77: the sources aren't built yet
abbrev pub not_built_line : List ℕ
not_built_line = codes "not built\n"
