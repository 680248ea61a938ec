-- What a sink that tells its bytes got, and what is told.
use Rattle.std.proofs.Common.{◌≡◌, ℕ, ◌+◌, ◌≤◌, List, [], ◌++◌, Option, Some, None, refl, sym, subst, append-nil, inl, inr, arith}
use Rattle.std.specs.Prelude.{◌⊎◌, Result, Ok, Err, IfSome}
use Rattle.sl_outside.specs.declared.source.Failed.{Failed}
use Rattle.sl_outside.specs.Counts.{Rose}
use Rattle.sl_outside.specs.Sink.{PutGives, IsPrefix, SinkState, Put, Tried}
use Rattle.sl_tool.specs.declared.status.Status.{Status}
use Rattle.sl_tool.specs.declared.status.Status.TheVariants.{SinkFault}
use Rattle.sl_tool.specs.Parts.{Tells}

-- a fact on what is told, if it is
pub each_some : {A : Type 0} (o : Option A) (P : A → Type 0) → ((x : A) → o ≡ Some x → P x) → IfSome o P
each_some None P h = tt
each_some (Some x) P h = h x refl

-- a list is a prefix of itself, and so is nothing
pub prefix_whole : (xs : List ℕ) → IsPrefix xs xs
prefix_whole xs = ([], sym (append-nil xs))

pub prefix_none : (xs : List ℕ) → IsPrefix [] xs
prefix_none xs = (xs, refl)

-- a piece that was put
pub gave : (a b : Option (List ℕ)) (held piece : List ℕ) → a ≡ Some held → PutGives a b piece (Ok tt) → b ≡ Some (held ++ piece)
gave a b held piece e h = let k : PutGives (Some held) b piece (Ok tt) = subst (λ a. PutGives a b piece (Ok tt)) e h in k

-- a prefix of a piece is put, whether or not the whole is
gave_prefix_at : (b : Option (List ℕ)) (held piece : List ℕ) (result : Result (Unit {0}) Failed) → PutGives (Some held) b piece result → (prefix : List ℕ) × IsPrefix prefix piece × (b ≡ Some (held ++ prefix))
gave_prefix_at b held piece (Ok done) h = (piece, prefix_whole piece, h)
gave_prefix_at b held piece (Err failed) h = h

pub gave_prefix : (a b : Option (List ℕ)) (held piece : List ℕ) (result : Result (Unit {0}) Failed) → a ≡ Some held → PutGives a b piece result → (prefix : List ℕ) × IsPrefix prefix piece × (b ≡ Some (held ++ prefix))
gave_prefix a b held piece result e h = gave_prefix_at b held piece result (subst (λ a. PutGives a b piece result) e h)

-- where the count didn't rise nothing was refused
not_refused : (line : List ℕ) (a b : SinkState) (result : Result (Unit {0}) Failed) → Put line a b result → ¬ Rose a.faults b.faults → Put line a b (Ok tt)
not_refused line a b (Ok done) h calm = h
not_refused line a b (Err failed) h calm = absurd (calm (h.cause.rose refl))

-- a line that was tried with no fault of `note`
pub try_calm : (line : List ℕ) (a b : SinkState) → Tried line a b → ¬ Rose a.faults b.faults → Put line a b (Ok tt)
try_calm line a b h calm = not_refused line a b h.0 h.1 calm

-- a count that rose on the way has risen
rose_by : (a m b : ℕ) → Rose a m → m ≤ b → Rose a b
rose_by a m b h le = omega arith

-- how telling a line ended: as it was to, with no fault, or with one
pub tell_ends : (meant status : Status) (line : List ℕ) (a b : SinkState) → Tells line meant a b status → ((status ≡ meant) × (b.faults ≡ a.faults)) ⊎ ((status ≡ SinkFault) × Rose a.faults b.faults)
tell_ends meant status line a b (inl h) = inl (h.1, h.0.cause.stayed refl)
tell_ends meant status line a b (inr (m, refused, tried, e)) = inr (e, rose_by a.faults m.faults b.faults (refused.cause.rose refl) tried.1.cause.no_lower)

-- a line that was told with no fault of `note`
pub tell_calm : (meant status : Status) (line : List ℕ) (a b : SinkState) → Tells line meant a b status → ¬ Rose a.faults b.faults → Put line a b (Ok tt) × (status ≡ meant)
tell_calm meant status line a b (inl h) calm = h
tell_calm meant status line a b (inr (m, refused, tried, e)) calm = absurd (calm (rose_by a.faults m.faults b.faults (refused.cause.rose refl) tried.1.cause.no_lower))

-- the count doesn't fall where a line is told, and rises by two at most
pub tell_grows : (meant status : Status) (line : List ℕ) (a b : SinkState) → Tells line meant a b status → (a.faults ≤ b.faults) × (b.faults ≤ a.faults + 2)
tell_grows meant status line a b (inl h) = (h.0.cause.no_lower, let once : b.faults ≤ a.faults + 1 = h.0.cause.by_one in omega arith)
tell_grows meant status line a b (inr (m, refused, tried, e)) =
    let p : a.faults ≤ m.faults = refused.cause.no_lower in
    let q : m.faults ≤ b.faults = tried.1.cause.no_lower in
    let r : m.faults ≤ a.faults + 1 = refused.cause.by_one in
    let s : b.faults ≤ m.faults + 1 = tried.1.cause.by_one in
    (omega arith, omega arith)

-- and by one where it is tried
pub try_grows : (line : List ℕ) (a b : SinkState) → Tried line a b → (a.faults ≤ b.faults) × (b.faults ≤ a.faults + 2)
try_grows line a b tried = (tried.1.cause.no_lower, let once : b.faults ≤ a.faults + 1 = tried.1.cause.by_one in omega arith)

-- a count that stayed didn't grow
pub stays_grown : (a b : ℕ) → b ≡ a → (a ≤ b) × (b ≤ a + 1)
stays_grown a b e = (omega arith, omega arith)
