-- What there is room for.
use Rattle.std.proofs.Common.{◌≡◌, ℕ, zero, suc, ◌≤◌, refl, sym, ◌∙◌, true, arith, true≢false}
use Rattle.std.specs.Prelude.{Some, None, max, leb}
use Rattle.std.proofs.lemmas.Bool.{leb-true, le-leb}
use Rattle.std.proofs.Math.Nat.{le-max_left, le-max_right, max-le}
use Rattle.std.proofs.Math.Dec.{leb-zero, leb-suc-zero, leb-suc-suc}
use Rattle.sl_parse_expr.specs.Names.{Levels, holds, open_to, deeper, fits}

pub open_fits : (r : Levels) → fits r ≡ true → open_to r ≡ true
open_fits None e = refl
open_fits (Some zero) e = e
open_fits (Some (suc n)) e = refl

-- a node has room, where its children have room below it
pub holds_node : (r : Levels) (n : ℕ) → open_to r ≡ true → holds (deeper r) n ≡ true → holds r (suc n) ≡ true
holds_node None n o e = refl
holds_node (Some zero) n o e = absurd (true≢false (sym o))
holds_node (Some (suc m)) n o e = leb-suc-suc n m ∙ e

pub holds_below : (r : Levels) (n : ℕ) → holds r (suc n) ≡ true → holds (deeper r) n ≡ true
holds_below None n e = refl
holds_below (Some zero) n e = absurd (true≢false (sym e ∙ leb-suc-zero n))
holds_below (Some (suc m)) n e = sym (leb-suc-suc n m) ∙ e

pub open_of : (r : Levels) (n : ℕ) → holds r (suc n) ≡ true → open_to r ≡ true
open_of None n e = refl
open_of (Some zero) n e = absurd (true≢false (sym e ∙ leb-suc-zero n))
open_of (Some (suc m)) n e = refl

pub fits_of : (r : Levels) (n : ℕ) → holds r (suc (suc n)) ≡ true → fits r ≡ true
fits_of r n e = open_of (deeper r) n (holds_below r (suc n) e)

pub holds_none : (r : Levels) → holds r 0 ≡ true
holds_none None = refl
holds_none (Some m) = leb-zero m

pub holds_one : (r : Levels) → open_to r ≡ true → holds r 1 ≡ true
holds_one r o = holds_node r 0 o (holds_none (deeper r))

pub holds_both : (r : Levels) (m n : ℕ) → holds r m ≡ true → holds r n ≡ true → holds r (max m n) ≡ true
holds_both None m n a b = refl
holds_both (Some l) m n a b = le-leb (max m n) l (max-le (leb-true m l a) (leb-true n l b))

less : (l m n : ℕ) → m ≤ n → leb n l ≡ true → leb m l ≡ true
less l m n h e = let u : n ≤ l = leb-true n l e in le-leb m l (omega arith)

pub holds_left : (r : Levels) (m n : ℕ) → holds r (max m n) ≡ true → holds r m ≡ true
holds_left None m n e = refl
holds_left (Some l) m n e = less l m (max m n) (le-max_left m n) e

pub holds_right : (r : Levels) (m n : ℕ) → holds r (max m n) ≡ true → holds r n ≡ true
holds_right None m n e = refl
holds_right (Some l) m n e = less l n (max m n) (le-max_right m n) e
