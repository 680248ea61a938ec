-- Tokens for which there may be no room.
use Rattle.std.specs.Prelude.{Bool, false, if◌then◌else◌}

-- a token passes where there is room for it
abbrev pub guard : {K : Type 0} → Bool → (K → Bool) → K → Bool
guard room f k = if room then f k else false
