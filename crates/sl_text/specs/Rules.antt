-- How broken rules print.
use Rattle.std.specs.Prelude.{ℕ, List, ◌++◌, codes}
use Rattle.std.specs.Fmt.{decimal}
use Rattle.sl_text.specs.declared.rule.Phase.{Phase}
use Rattle.sl_text.specs.declared.rule.Phase.TheVariants.{L, G, N, Y, P, A, S}
use Rattle.sl_text.specs.declared.rule.Rule.{Rule}

-- a phase prints as its letter
abbrev pub phase_text : Phase → List ℕ
phase_text L = codes "L"
phase_text G = codes "G"
phase_text N = codes "N"
phase_text Y = codes "Y"
phase_text P = codes "P"
phase_text A = codes "A"
phase_text S = codes "S"

-- a rule prints as its phase and its number, as L1
abbrev pub rule_text : Rule → List ℕ
rule_text rule = phase_text rule.phase ++ decimal rule.number
