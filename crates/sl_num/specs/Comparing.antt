-- Comparisons of two numbers.
use Rattle.std.specs.Prelude.{ℤ, pos, int_lt, int_le, Bool, true, false, not, ◌&&◌}
use Rattle.sl_num.specs.declared.comparing.Comparison.{Comparison}
use Rattle.sl_num.specs.declared.comparing.Comparison.TheVariants.{Less, LessEqual, Greater, GreaterEqual, Equal, NotEqual}

-- whether two numbers compare so
abbrev pub holds : Comparison → ℤ → ℤ → Bool
holds Less a b = int_lt a b
holds LessEqual a b = int_le a b
holds Greater a b = int_lt b a
holds GreaterEqual a b = int_le b a
holds Equal a b = int_le a b && int_le b a
holds NotEqual a b = not (int_le a b && int_le b a)

-- 1 for true and 0 for false
abbrev pub truth : Bool → ℤ
truth true = pos 1
truth false = pos 0
