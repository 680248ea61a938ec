-- Examples of places.
use Rattle.std.proofs.Common.{◌≡◌, codes, refl}
use Rattle.sl_text.specs.Places.{line_of, column_of}

-- the fourth byte of two lines is the second one of the second line
fourth_byte : (line_of (codes "a\nbc") 3 ≡ 2) × (column_of (codes "a\nbc") 3 ≡ 2)
fourth_byte = (refl, refl)

-- a line feed stands on the line that it ends
a_line_feed : (line_of (codes "ab\ncd\n") 5 ≡ 2) × (column_of (codes "ab\ncd\n") 5 ≡ 3)
a_line_feed = (refl, refl)

-- the end behind a last line feed stands on the next line
the_end : (line_of (codes "ab\n") 3 ≡ 2) × (column_of (codes "ab\n") 3 ≡ 1)
the_end = (refl, refl)
