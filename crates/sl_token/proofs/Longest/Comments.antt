-- Comments of the form `/* */`, with others inside them.
use Rattle.std.proofs.Common.{◌≡◌, ◌≢◌, ℕ, Bool, false, ◌||◌, ⊎_elim, zero, suc, ◌+◌, ◌-◌, ◌<◌, List, [], ◌∷◌, drop, true, cond, ◌&&◌, ◌==◌, Option, Some, None, refl, sym, ap, subst, ◌∙◌, arith}
use Rattle.std.proofs.lemmas.Bool.{cond_both, both_ways, and_parts, eqb-true, ne_eqb, eq-eqb, cases_eq, cond-false}
use Rattle.std.proofs.lemmas.Option.{same_Some}
use Rattle.sl_token.specs.declared.opening.Opening.TheVariants as opens
use Rattle.sl_token.specs.Spellings.{begins_block_comment, more, depth_behind, before_behind, comment_len, comment_by, comment_piece}
use Rattle.sl_token.specs.Longest.{Body, Empty, Byte, Comment, spelled, body_len, ends_block_comment, IsBody, IsBlockComment}
use Rattle.sl_token.proofs.Within.{Begun}
use Rattle.sl_token.proofs.Longest.Runs.{Longest}

-- A body is passed -----------------------------------------------------------------------------------------------------

-- lengths that add up
more_more : (a b : ℕ) (len : Option ℕ) → more a (more b len) ≡ more (a + b) len
more_more a b None = refl
more_more a b (Some len) = let same : a + (b + len) ≡ a + b + len = omega arith in ap (λ len. Some len) same

no_more : (len : Option ℕ) → more 0 len ≡ len
no_more None = refl
no_more (Some len) = let same : 0 + len ≡ len = omega arith in ap (λ len. Some len) same

-- the last open comment
last_one : (depth : ℕ) → 0 < depth → (depth - 1 == 0) ≡ (depth == 1)
last_one depth some =
    ⊎_elim
    (λ (is : depth ≡ 1). eq-eqb (depth - 1) 0 (omega arith) ∙ sym (eq-eqb depth 1 is))
    (λ (isnt : depth ≢ 1). ne_eqb (depth - 1) 0 (λ e. isnt (omega arith)) ∙ sym (ne_eqb depth 1 isnt))
    (cases_eq depth 1)

-- one byte further, by what it makes with the byte before
step_by : (opens closes : Bool) (depth byte : ℕ) (bytes : List ℕ) → 0 < depth
    → cond (cond opens (depth + 1) (cond closes (depth - 1) depth) == 0) (Some 1)
    (more 1 (comment_len (cond opens (depth + 1) (cond closes (depth - 1) depth)) (cond (opens || closes) 0 byte) bytes))
    ≡ cond opens (more 1 (comment_len (depth + 1) 0 bytes))
    (cond closes (cond (depth == 1) (Some 1) (more 1 (comment_len (depth - 1) 0 bytes))) (more 1 (comment_len depth byte bytes)))
step_by true closes depth byte bytes some = cond-false _ _ _ (ne_eqb (depth + 1) 0 (λ e. omega arith))
step_by false true depth byte bytes some =
    ap (λ test. cond test (Some 1) (more 1 (comment_len (depth - 1) 0 bytes))) (last_one depth some)
step_by false false depth byte bytes some = cond-false _ _ _ (ne_eqb depth 0 (λ e. omega arith))

comment_step : (depth before byte : ℕ) (bytes : List ℕ) → 0 < depth
    → comment_len depth before (byte ∷ bytes)
    ≡ cond (before == 47 && byte == 42) (more 1 (comment_len (depth + 1) 0 bytes))
    (cond (before == 42 && byte == 47) (cond (depth == 1) (Some 1) (more 1 (comment_len (depth - 1) 0 bytes))) (more 1 (comment_len depth byte bytes)))
unfolding comment_len depth_behind before_behind
comment_step depth before byte bytes some = step_by (before == 47 && byte == 42) (before == 42 && byte == 47) depth byte bytes some

-- behind a byte that makes no mark with the next one it is as behind none
harmless : (depth byte : ℕ) (bytes : List ℕ) → 0 < depth → begins_block_comment (byte ∷ bytes) ≡ false → ends_block_comment (byte ∷ bytes) ≡ false → comment_len depth byte bytes ≡ comment_len depth 0 bytes
unfolding comment_len begins_block_comment
harmless depth byte [] some a b = refl
harmless depth byte (next ∷ bytes) some a b =
    let on = more 1 (comment_len depth next bytes) in
    let closed : Option ℕ = cond (depth == 1) (Some 1) (more 1 (comment_len (depth - 1) 0 bytes)) in
    comment_step depth byte next bytes some
    ∙ cond-false (byte == 47 && next == 42) (more 1 (comment_len (depth + 1) 0 bytes)) (cond (byte == 42 && next == 47) closed on) a
    ∙ cond-false (byte == 42 && next == 47) closed on b
    ∙ sym (comment_step depth 0 next bytes some)

passed : (body : Body) (depth : ℕ) (behind : List ℕ) → 0 < depth → IsBody body behind → comment_len depth 0 (spelled body behind) ≡ more (body_len body) (comment_len depth 0 behind)
unfolding comment_len
passed Empty depth behind some is = sym (no_more (comment_len depth 0 behind))
passed (Byte byte rest) depth behind some is =
    comment_step depth 0 byte (spelled rest behind) some
    ∙ ap (more 1) (harmless depth byte (spelled rest behind) some is.0 is.1 ∙ passed rest depth behind some is.2)
    ∙ more_more 1 (body_len rest) (comment_len depth 0 behind)
passed (Comment inner rest) depth behind some is =
    let one = passed inner (depth + 1) (42 ∷ 47 ∷ spelled rest behind) (omega arith) is.0 in
    let two = passed rest depth behind some is.1 in
    let last = comment_len depth 0 behind in
    let not_last : depth + 1 == 1 ≡ false = ne_eqb (depth + 1) 1 (λ e. omega arith) in
    let same : depth + 1 - 1 ≡ depth = omega arith in
    let close : comment_len (depth + 1) 0 (42 ∷ 47 ∷ spelled rest behind) ≡ more 1 (more 1 (more (body_len rest) last)) =
    comment_step (depth + 1) 0 42 (47 ∷ spelled rest behind) (omega arith)
    ∙ ap (more 1) (comment_step (depth + 1) 42 47 (spelled rest behind) (omega arith)
    ∙ cond-false (depth + 1 == 1) (Some 1) (more 1 (comment_len (depth + 1 - 1) 0 (spelled rest behind))) not_last
    ∙ ap (more 1) (ap (λ depth. comment_len depth 0 (spelled rest behind)) same ∙ two)) in
    let count : 1 + (1 + (body_len inner + (1 + (1 + body_len rest)))) ≡ 4 + body_len inner + body_len rest = omega arith in
    let inside = spelled inner (42 ∷ 47 ∷ spelled rest behind) in
    comment_step depth 0 47 (42 ∷ inside) some
    ∙ ap (more 1) (comment_step depth 47 42 inside some)
    ∙ ap (λ len. more 1 (more 1 len)) (one ∙ ap (more (body_len inner)) close)
    ∙ (ap (λ len. more 1 (more 1 (more (body_len inner) (more 1 len)))) (more_more 1 (body_len rest) last)
    ∙ (ap (λ len. more 1 (more 1 (more (body_len inner) len))) (more_more 1 (1 + body_len rest) last)
    ∙ (ap (λ len. more 1 (more 1 len)) (more_more (body_len inner) (1 + (1 + body_len rest)) last)
    ∙ (ap (more 1) (more_more 1 (body_len inner + (1 + (1 + body_len rest))) last)
    ∙ (more_more 1 (1 + (body_len inner + (1 + (1 + body_len rest)))) last
    ∙ ap (λ count. more count last) count)))))

-- What is passed is a body ---------------------------------------------------------------------------------------------

-- behind so many open comments these bytes go up to and with the `*/` that closes the last
abbrev Closes : ℕ → List ℕ → ℕ → Type 0
Closes zero bytes len = len ≡ 0
Closes (suc depth) bytes len =
    (body : Body) × (rest : List ℕ) × (left : ℕ) × (bytes ≡ spelled body (42 ∷ 47 ∷ rest)) × IsBody body (42 ∷ 47 ∷ rest) × (len ≡ body_len body + 2 + left) × Closes depth rest left

abbrev ClosesIf : ℕ → List ℕ → ℕ → Option ℕ → Type 0
ClosesIf depth bytes before None = Unit {0}
ClosesIf depth bytes before (Some len) = Closes depth bytes (before + len)

-- one comment more is open
opened : (depth : ℕ) (bytes : List ℕ) (len : Option ℕ) → ClosesIf (suc (suc depth)) bytes 0 len → ClosesIf (suc depth) (47 ∷ 42 ∷ bytes) 1 (more 1 len)
opened depth bytes None closes = tt
opened depth bytes (Some len) closes =
    let inner = closes.0 in
    let next = closes.6 in
    let outer = next.0 in
    let size = closes.5 in
    let more_size = next.5 in (
      Comment inner outer,
      next.1,
      next.2,
      ap (λ bytes. 47 ∷ 42 ∷ bytes) (closes.3 ∙ ap (λ rest. spelled inner (42 ∷ 47 ∷ rest)) next.3),
      (subst (λ rest. IsBody inner (42 ∷ 47 ∷ rest)) next.3 closes.4, next.4),
      omega arith,
      next.6,
    )

-- one is closed, and others are open
closed : (depth : ℕ) (bytes : List ℕ) (len : Option ℕ) → ClosesIf (suc depth) bytes 0 len → ClosesIf (suc (suc depth)) (42 ∷ 47 ∷ bytes) 1 (more 1 len)
closed depth bytes None closes = tt
closed depth bytes (Some len) closes = (Empty, bytes, 0 + len, refl, tt, omega arith, closes)

-- the last is closed
closed_last : (bytes : List ℕ) → ClosesIf 1 (42 ∷ 47 ∷ bytes) 1 (Some 1)
closed_last bytes = (Empty, bytes, 0, refl, tt, omega arith, refl)

-- a byte that makes no mark
stepped : (depth byte : ℕ) (bytes : List ℕ) (len : Option ℕ) → begins_block_comment (byte ∷ bytes) ≡ false → ends_block_comment (byte ∷ bytes) ≡ false
    → ClosesIf (suc depth) bytes 1 len → ClosesIf (suc depth) (byte ∷ bytes) 1 (more 1 len)
stepped depth byte bytes None a b closes = tt
stepped depth byte bytes (Some len) a b closes =
    let size = closes.5 in (
      Byte byte closes.0,
      closes.1,
      closes.2,
      ap (λ bytes. byte ∷ bytes) closes.3,
      (subst (λ bytes. begins_block_comment (byte ∷ bytes) ≡ false) closes.3 a, subst (λ bytes. ends_block_comment (byte ∷ bytes) ≡ false) closes.3 b, closes.4),
      omega arith,
      closes.6,
    )

-- the count of the bytes from this one on
counted : (depth : ℕ) (bytes : List ℕ) (len : Option ℕ) → ClosesIf depth bytes 1 len → ClosesIf depth bytes 0 (more 1 len)
counted depth bytes None closes = tt
counted depth bytes (Some len) closes = let same : 1 + len ≡ 0 + (1 + len) = omega arith in subst (Closes depth bytes) same closes

-- at a `*/`
at_end : (depth : ℕ) (bytes : List ℕ) → ((depth : ℕ) → ClosesIf (suc depth) bytes 0 (comment_len (suc depth) 0 bytes))
    → ClosesIf (suc depth) (42 ∷ 47 ∷ bytes) 1 (cond (suc depth == 1) (Some 1) (more 1 (comment_len (suc depth - 1) 0 bytes)))
at_end zero bytes rest = closed_last bytes
at_end (suc depth) bytes rest =
    let same : suc depth ≡ suc (suc depth) - 1 = omega arith in
    let on = closed depth bytes (comment_len (suc depth) 0 bytes) (rest depth) in
    let more_open : suc (suc depth) == 1 ≡ false = ne_eqb (suc (suc depth)) 1 (λ e. omega arith) in
    subst (ClosesIf (suc (suc depth)) (42 ∷ 47 ∷ bytes) 1)
    (ap (λ depth. more 1 (comment_len depth 0 bytes)) same ∙ sym (cond-false (suc (suc depth) == 1) (Some 1) (more 1 (comment_len (suc (suc depth) - 1) 0 bytes)) more_open))
    on

scan : (bytes : List ℕ) → ((depth : ℕ) → ClosesIf (suc depth) bytes 0 (comment_len (suc depth) 0 bytes))
    × ((depth before : ℕ) → ClosesIf (suc depth) (before ∷ bytes) 1 (comment_len (suc depth) before bytes))
unfolding comment_len begins_block_comment
scan [] = (λ depth. tt, λ depth before. tt)
scan (byte ∷ bytes) =
    let rest = scan bytes in (
      λ depth.
          subst (ClosesIf (suc depth) (byte ∷ bytes) 0) (sym (comment_step (suc depth) 0 byte bytes (omega arith)))
          (counted (suc depth) (byte ∷ bytes) (comment_len (suc depth) byte bytes) (rest.1 depth byte)),
      λ depth before.
          let P = ClosesIf (suc depth) (before ∷ byte ∷ bytes) 1 in
          let ended : Option ℕ = cond (suc depth == 1) (Some 1) (more 1 (comment_len (suc depth - 1) 0 bytes)) in
          let on = more 1 (comment_len (suc depth) byte bytes) in
          subst P (sym (comment_step (suc depth) before byte bytes (omega arith)))
          (cond_both (before == 47 && byte == 42) (more 1 (comment_len (suc depth + 1) 0 bytes)) (cond (before == 42 && byte == 47) ended on) P
          (λ e.
          let both = and_parts (before == 47) (byte == 42) e in
          let same : suc (suc depth) ≡ suc depth + 1 = omega arith in
          subst (λ before. ClosesIf (suc depth) (before ∷ byte ∷ bytes) 1 (more 1 (comment_len (suc depth + 1) 0 bytes))) (sym (eqb-true before 47 both.0))
          (subst (λ byte. ClosesIf (suc depth) (47 ∷ byte ∷ bytes) 1 (more 1 (comment_len (suc depth + 1) 0 bytes))) (sym (eqb-true byte 42 both.1))
          (subst (λ depths. ClosesIf (suc depth) (47 ∷ 42 ∷ bytes) 1 (more 1 (comment_len depths 0 bytes))) same
          (opened depth bytes (comment_len (suc (suc depth)) 0 bytes) (rest.0 (suc depth))))))
          (λ a.
          cond_both (before == 42 && byte == 47) ended on P
          (λ e.
          let both = and_parts (before == 42) (byte == 47) e in
          subst (λ before. ClosesIf (suc depth) (before ∷ byte ∷ bytes) 1 ended) (sym (eqb-true before 42 both.0))
          (subst (λ byte. ClosesIf (suc depth) (42 ∷ byte ∷ bytes) 1 ended) (sym (eqb-true byte 47 both.1)) (at_end depth bytes rest.0)))
          (λ b. stepped depth before (byte ∷ bytes) (comment_len (suc depth) byte bytes) a b (rest.1 depth byte)))),
    )

-- the first two bytes
front : (bytes : List ℕ) → begins_block_comment bytes ≡ true → bytes ≡ 47 ∷ 42 ∷ drop 2 bytes
unfolding begins_block_comment
front [] h = absurd (both_ways false refl h)
front (a ∷ []) h = absurd (both_ways false refl (and_parts (a == 47) false h).1)
front (a ∷ b ∷ bytes) h =
    let both = and_parts (a == 47) (b == 42) h in
    ap (λ a. a ∷ b ∷ bytes) (eqb-true a 47 both.0) ∙ ap (λ b. 47 ∷ b ∷ bytes) (eqb-true b 42 both.1)

-- a comment alone
last_end : (behind : List ℕ) → comment_len 1 0 (42 ∷ 47 ∷ behind) ≡ Some 2
unfolding comment_len depth_behind before_behind
last_end behind = refl

pub block_longest : (bytes : List ℕ) → Begun opens.BlockComment bytes → Longest (IsBlockComment bytes) (comment_piece bytes)
unfolding comment_piece
block_longest bytes h = by (comment_len 1 0 (drop 2 bytes)) refl ((scan (drop 2 bytes)).0 0)
  where
    by : (len : Option ℕ) → comment_len 1 0 (drop 2 bytes) ≡ len → ClosesIf 1 (drop 2 bytes) 0 (comment_len 1 0 (drop 2 bytes)) → Longest (IsBlockComment bytes) (comment_by len)
    by None e found = tt
    by (Some len) e found =
        let closes : Closes 1 (drop 2 bytes) (0 + len) = subst (ClosesIf 1 (drop 2 bytes) 0) e found in
        let size = closes.5 in
        let none = closes.6 in (
          record {
            body = closes.0;
            behind = closes.1;
            is = omega arith;
            whole = front bytes h ∙ ap (λ rest. 47 ∷ 42 ∷ rest) closes.3;
            well = closes.4;
          },
          λ m it.
              let is = it.is in
              let behind = 42 ∷ 47 ∷ it.behind in
              let read : comment_len 1 0 (drop 2 bytes) ≡ Some (body_len it.body + 2) =
              ap (λ bytes. comment_len 1 0 (drop 2 bytes)) it.whole ∙ (passed it.body 1 behind (omega arith) it.well ∙ ap (more (body_len it.body)) (last_end it.behind)) in
              let same : body_len it.body + 2 ≡ len = same_Some (body_len it.body + 2) len (sym read ∙ e) in
              omega arith,
        )
