-- The places of line feeds: how many stand before a place, and where its line begins.
use Rattle.std.proofs.Common.{◌≡◌, ℕ, ◌+◌, ◌-◌, ◌<◌, ◌≤◌, zero, suc, Bool, true, false, not, List, [], ◌∷◌, ◌++◌, length, get_or, take, refl, ap, ◌∙◌, arith, cond, add-one, ⊎_elim}
use Rattle.std.specs.List.{count_by, suffix_len}
use Rattle.std.specs.List.Sorted.{IsNonDecreasing}
use Rattle.std.proofs.lemmas.Bool.{cases_order, cases_Bool}
use Rattle.std.proofs.lemmas.List.Sums.{sum_by-cons, count_by_more_yes, count_by_more_no, suffix_len-take_yes, suffix_len-take_no}
use Rattle.std.proofs.lemmas.List.Sorted.{IsNonDecreasingBy-from_default}
use Rattle.sl_text.specs.Places.{is_feed, line_of, column_of, feeds_from}

-- a list of feeds, and a number, with one more in front where a byte is a line feed
abbrev pub put_feed : Bool → ℕ → List ℕ → List ℕ
put_feed feed at feeds = cond feed (at ∷ feeds) feeds

abbrev pub put_count : Bool → ℕ → ℕ
put_count true count = suc count
put_count false count = count

-- how many line feeds stand before a place
unfoldable pub feeds_before : List ℕ → ℕ → ℕ
feeds_before bytes place = count_by is_feed (take place bytes)

feeds_before-zero : (bytes : List ℕ) → feeds_before bytes 0 ≡ 0
unfolding feeds_before
feeds_before-zero bytes = refl

feeds_before-nil : (place : ℕ) → feeds_before [] place ≡ 0
unfolding feeds_before
feeds_before-nil zero = refl
feeds_before-nil (suc place) = refl

put_count_is : (b : Bool) (count : ℕ) → cond b 1 0 + count ≡ put_count b count
put_count_is true count = omega arith
put_count_is false count = omega arith

feeds_before-suc : (byte : ℕ) (rest : List ℕ) (place : ℕ) → feeds_before (byte ∷ rest) (suc place) ≡ put_count (is_feed byte) (feeds_before rest place)
unfolding feeds_before
feeds_before-suc byte rest place =
    sum_by-cons (λ x. cond (is_feed x) 1 0) byte (take place rest) ∙ put_count_is (is_feed byte) _

-- a line feed stands in the list of feeds behind those before it
at_step : (b : Bool) (at place count : ℕ) (feeds : List ℕ) → get_or feeds count 0 ≡ at + 1 + place → get_or (put_feed b at feeds) (put_count b count) 0 ≡ at + suc place
at_step true at place count feeds is = omega arith
at_step false at place count feeds is = omega arith

pub feed_at : (at : ℕ) (bytes : List ℕ) (place : ℕ) → place < length bytes → is_feed (get_or bytes place 0) ≡ true → get_or (feeds_from at bytes) (feeds_before bytes place) 0 ≡ at + place
feed_at at [] place inside is = absurd (omega arith)
feed_at at (byte ∷ rest) zero inside is = rw (feeds_before-zero (byte ∷ rest), is) (omega arith)
feed_at at (byte ∷ rest) (suc place) inside is =
    let more = feed_at (at + 1) rest place (omega arith) is in
    rw feeds_before-suc (at_step (is_feed byte) at place _ _ more)

-- there are no more before a place than there are
count_step : (b : Bool) (at count : ℕ) (feeds : List ℕ) → count ≤ length feeds → put_count b count ≤ length (put_feed b at feeds)
count_step true at count feeds le = omega arith
count_step false at count feeds le = omega arith

feeds_before-le-length : (at : ℕ) (bytes : List ℕ) (place : ℕ) → feeds_before bytes place ≤ length (feeds_from at bytes)
feeds_before-le-length at [] place = rw feeds_before-nil (omega arith)
feeds_before-le-length at (byte ∷ rest) zero = rw feeds_before-zero (omega arith)
feeds_before-le-length at (byte ∷ rest) (suc place) =
    rw feeds_before-suc (count_step (is_feed byte) at _ _ (feeds_before-le-length (at + 1) rest place))

-- the feeds before a place stand below it
below_step : (b : Bool) (at place count : ℕ) (feeds : List ℕ) → ((index : ℕ) → index < count → get_or feeds index 0 < at + 1 + place) → (index : ℕ) → index < put_count b count → get_or (put_feed b at feeds) index 0 < at + suc place
below_step true at place count feeds more zero inside = omega arith
below_step true at place count feeds more (suc index) inside = omega (arith, more index (omega arith))
below_step false at place count feeds more index inside = omega (arith, more index inside)

feed_below : (at : ℕ) (bytes : List ℕ) (place index : ℕ) → index < feeds_before bytes place → get_or (feeds_from at bytes) index 0 < at + place
feed_below at [] place index inside = absurd (omega (arith, feeds_before-nil place))
feed_below at (byte ∷ rest) zero index inside = absurd (omega (arith, feeds_before-zero (byte ∷ rest)))
feed_below at (byte ∷ rest) (suc place) index inside =
    let here = rw feeds_before-suc at inside in
    below_step (is_feed byte) at place _ _ (feed_below (at + 1) rest place) index here

-- all stand from the first place on
from_step : (b : Bool) (at : ℕ) (feeds : List ℕ) → ((index : ℕ) → index < length feeds → at + 1 ≤ get_or feeds index 0) → (index : ℕ) → index < length (put_feed b at feeds) → at ≤ get_or (put_feed b at feeds) index 0
from_step true at feeds more zero inside = omega arith
from_step true at feeds more (suc index) inside = omega (arith, more index (omega arith))
from_step false at feeds more index inside = omega (arith, more index inside)

feed_from : (at : ℕ) (bytes : List ℕ) (index : ℕ) → index < length (feeds_from at bytes) → at ≤ get_or (feeds_from at bytes) index 0
feed_from at [] index inside = absurd (omega arith)
feed_from at (byte ∷ rest) index inside = from_step (is_feed byte) at _ (feed_from (at + 1) rest) index inside

-- the others stand from the place on
above_step : (b : Bool) (at place count : ℕ) (feeds : List ℕ) → ((index : ℕ) → count ≤ index → index < length feeds → at + 1 + place ≤ get_or feeds index 0) → (index : ℕ) → put_count b count ≤ index → index < length (put_feed b at feeds) → at + suc place ≤ get_or (put_feed b at feeds) index 0
above_step true at place count feeds more zero behind inside = absurd (omega arith)
above_step true at place count feeds more (suc index) behind inside = omega (arith, more index (omega arith) (omega arith))
above_step false at place count feeds more index behind inside = omega (arith, more index behind inside)

feed_above : (at : ℕ) (bytes : List ℕ) (place index : ℕ) → feeds_before bytes place ≤ index → index < length (feeds_from at bytes) → at + place ≤ get_or (feeds_from at bytes) index 0
feed_above at [] place index behind inside = absurd (omega arith)
feed_above at (byte ∷ rest) zero index behind inside = omega (arith, feed_from at (byte ∷ rest) index inside)
feed_above at (byte ∷ rest) (suc place) index behind inside =
    let here = rw feeds_before-suc at behind in
    above_step (is_feed byte) at place _ _ (feed_above (at + 1) rest place) index here inside

-- so where that many feeds are below a place, and the others are not, they are those before it
pub before_is : (bytes : List ℕ) (place before : ℕ) → before ≤ length (feeds_from 0 bytes) → ((index : ℕ) → index < before → get_or (feeds_from 0 bytes) index 0 < place) → ((index : ℕ) → before ≤ index → index < length (feeds_from 0 bytes) → place ≤ get_or (feeds_from 0 bytes) index 0) → before ≡ feeds_before bytes place
before_is bytes place before inside below above =
    let count = feeds_before bytes place in
    let most = feeds_before-le-length 0 bytes place in
    ⊎_elim (λ same. same)
    (⊎_elim
    (λ (less : before < count). absurd (omega (arith, above before (omega arith) (omega arith), feed_below 0 bytes place before less)))
    (λ (more : count < before). absurd (omega (arith, below count more, feed_above 0 bytes place count (omega arith) (omega arith)))))
    (cases_order before count)

-- the feeds stand in order
order_step : (b : Bool) (at : ℕ) (feeds : List ℕ) → ((index : ℕ) → index < length feeds → at + 1 ≤ get_or feeds index 0) → ((i j : ℕ) → i ≤ j → j < length feeds → get_or feeds i 0 ≤ get_or feeds j 0) → (i j : ℕ) → i ≤ j → j < length (put_feed b at feeds) → get_or (put_feed b at feeds) i 0 ≤ get_or (put_feed b at feeds) j 0
order_step true at feeds from more zero zero le inside = omega arith
order_step true at feeds from more zero (suc j) le inside = omega (arith, from j (omega arith))
order_step true at feeds from more (suc i) zero le inside = absurd (omega arith)
order_step true at feeds from more (suc i) (suc j) le inside = more i j (omega arith) (omega arith)
order_step false at feeds from more i j le inside = more i j le inside

feeds_in_order : (at : ℕ) (bytes : List ℕ) (i j : ℕ) → i ≤ j → j < length (feeds_from at bytes) → get_or (feeds_from at bytes) i 0 ≤ get_or (feeds_from at bytes) j 0
feeds_in_order at [] i j le inside = absurd (omega arith)
feeds_in_order at (byte ∷ rest) i j le inside =
    order_step (is_feed byte) at _ (feed_from (at + 1) rest) (feeds_in_order (at + 1) rest) i j le inside

pub IsNonDecreasing-feeds : (bytes : List ℕ) → IsNonDecreasing (feeds_from 0 bytes)
IsNonDecreasing-feeds bytes = IsNonDecreasingBy-from_default (λ x. x) _ 0 (feeds_in_order 0 bytes)

-- there are no more of them than bytes
length_step : (b : Bool) (at size : ℕ) (feeds : List ℕ) → length feeds ≤ size → length (put_feed b at feeds) ≤ suc size
length_step true at size feeds le = omega arith
length_step false at size feeds le = omega arith

pub length-feeds-le : (at : ℕ) (bytes : List ℕ) → length (feeds_from at bytes) ≤ length bytes
length-feeds-le at [] = omega arith
length-feeds-le at (byte ∷ rest) = length_step (is_feed byte) at _ _ (length-feeds-le (at + 1) rest)

-- the feeds of one byte more
more_step_yes : (b : Bool) (at place : ℕ) (feeds next : List ℕ) → next ≡ feeds ++ (at + 1 + place) ∷ [] → put_feed b at next ≡ put_feed b at feeds ++ (at + suc place) ∷ []
more_step_yes true at place feeds next is = let same : at + 1 + place ≡ at + suc place = omega arith in rw is (rw same refl)
more_step_yes false at place feeds next is = let same : at + 1 + place ≡ at + suc place = omega arith in rw is (rw same refl)

feeds_suc_yes : (at : ℕ) (bytes : List ℕ) (place : ℕ) → place < length bytes → is_feed (get_or bytes place 0) ≡ true → feeds_from at (take (suc place) bytes) ≡ feeds_from at (take place bytes) ++ (at + place) ∷ []
feeds_suc_yes at [] place inside is = absurd (omega arith)
feeds_suc_yes at (byte ∷ rest) zero inside is = let same : at ≡ at + 0 = omega arith in rw is (ap (λ x. x ∷ []) same)
feeds_suc_yes at (byte ∷ rest) (suc place) inside is =
    more_step_yes (is_feed byte) at place _ _ (feeds_suc_yes (at + 1) rest place (omega arith) is)

feeds_suc_no : (at : ℕ) (bytes : List ℕ) (place : ℕ) → place < length bytes → is_feed (get_or bytes place 0) ≡ false → feeds_from at (take (suc place) bytes) ≡ feeds_from at (take place bytes)
feeds_suc_no at [] place inside is = absurd (omega arith)
feeds_suc_no at (byte ∷ rest) zero inside is = rw is refl
feeds_suc_no at (byte ∷ rest) (suc place) inside is =
    ap (put_feed (is_feed byte) at) (feeds_suc_no (at + 1) rest place (omega arith) is)

pub feeds_more_yes : (bytes : List ℕ) (place : ℕ) → place < length bytes → is_feed (get_or bytes place 0) ≡ true → feeds_from 0 (take (place + 1) bytes) ≡ feeds_from 0 (take place bytes) ++ place ∷ []
feeds_more_yes bytes place inside is =
    let none : 0 + place ≡ place = omega arith in
    rw add-one (feeds_suc_yes 0 bytes place inside is ∙ ap (λ x. feeds_from 0 (take place bytes) ++ x ∷ []) none)

pub feeds_more_no : (bytes : List ℕ) (place : ℕ) → place < length bytes → is_feed (get_or bytes place 0) ≡ false → feeds_from 0 (take (place + 1) bytes) ≡ feeds_from 0 (take place bytes)
feeds_more_no bytes place inside is = rw add-one (feeds_suc_no 0 bytes place inside is)

-- where the line of a place begins: behind the last feed before it
abbrev pub start : List ℕ → ℕ → ℕ
start feeds zero = 0
start feeds (suc last) = get_or feeds last 0 + 1

-- how many bytes stand between a place and its line's start
unfoldable pub bytes_back : List ℕ → ℕ → ℕ
bytes_back bytes place = suffix_len (λ byte. not (is_feed byte)) (take place bytes)

feeds_before_yes : (bytes : List ℕ) (place : ℕ) → place < length bytes → is_feed (get_or bytes place 0) ≡ true → feeds_before bytes (suc place) ≡ suc (feeds_before bytes place)
unfolding feeds_before
feeds_before_yes bytes place inside is = rw (← add-one place) (count_by_more_yes is_feed bytes place 0 inside is ∙ add-one _)

feeds_before_no : (bytes : List ℕ) (place : ℕ) → place < length bytes → is_feed (get_or bytes place 0) ≡ false → feeds_before bytes (suc place) ≡ feeds_before bytes place
unfolding feeds_before
feeds_before_no bytes place inside is = rw (← add-one place) (count_by_more_no is_feed bytes place 0 inside is)

bytes_back_yes : (bytes : List ℕ) (place : ℕ) → place < length bytes → is_feed (get_or bytes place 0) ≡ true → bytes_back bytes (suc place) ≡ 0
unfolding bytes_back
bytes_back_yes bytes place inside is =
    let back : suc place - 1 ≡ place = omega arith in
    suffix_len-take_no (λ byte. not (is_feed byte)) bytes (suc place) 0 (omega arith) (omega arith) (rw back (rw is refl))

bytes_back_no : (bytes : List ℕ) (place : ℕ) → place < length bytes → is_feed (get_or bytes place 0) ≡ false → bytes_back bytes (suc place) ≡ 1 + bytes_back bytes place
unfolding bytes_back
bytes_back_no bytes place inside is =
    let back : suc place - 1 ≡ place = omega arith in
    let more = suffix_len-take_yes (λ byte. not (is_feed byte)) bytes (suc place) 0 (omega arith) (omega arith) (rw back (rw is refl)) in
    rw back at more

bytes_back-zero : (bytes : List ℕ) → bytes_back bytes 0 ≡ 0
unfolding bytes_back
bytes_back-zero bytes = refl

pub bytes_back_is : (bytes : List ℕ) (place : ℕ) → place ≤ length bytes → bytes_back bytes place + start (feeds_from 0 bytes) (feeds_before bytes place) ≡ place
bytes_back_is bytes zero inside = rw (bytes_back-zero, feeds_before-zero) (omega arith)
bytes_back_is bytes (suc place) inside =
    ⊎_elim
    (λ (is : is_feed (get_or bytes place 0) ≡ true).
    rw (bytes_back_yes bytes place (omega arith) is, feeds_before_yes bytes place (omega arith) is)
    (omega (arith, feed_at 0 bytes place (omega arith) is)))
    (λ (is : is_feed (get_or bytes place 0) ≡ false).
    rw (bytes_back_no bytes place (omega arith) is, feeds_before_no bytes place (omega arith) is)
    (omega (arith, bytes_back_is bytes place (omega arith))))
    (cases_Bool (is_feed (get_or bytes place 0)))

-- the line and the column, by the number of feeds before the place and the start of its line
pub line_is : (bytes : List ℕ) (place before : ℕ) → before ≡ feeds_before bytes place → before + 1 ≡ line_of bytes place
unfolding feeds_before
line_is bytes place before is = omega arith

pub column_is : (bytes : List ℕ) (place before from : ℕ) → place ≤ length bytes → before ≡ feeds_before bytes place → from ≡ start (feeds_from 0 bytes) before → place - from + 1 ≡ column_of bytes place
unfolding bytes_back
column_is bytes place before from inside is start_is =
    let same = ap (start (feeds_from 0 bytes)) is in
    omega (arith, bytes_back_is bytes place inside, same)

-- the start of a line, as the look-up reads it
pub start_at : (feeds : List ℕ) (before : ℕ) → (before ≡ 0 → ⊥) → get_or feeds (before - 1) 0 + 1 ≡ start feeds before
start_at feeds zero some = absurd (some refl)
start_at feeds (suc last) some = let back : suc last - 1 ≡ last = omega arith in rw back refl
