-- Names, alone and with a text behind them.
use Rattle.std.proofs.Common.{◌≡◌, ◌≢◌, ◌⊎◌, ℕ, zero, suc, ◌+◌, ◌-◌, ◌<◌, ◌≤◌, List, [], ◌∷◌, ◌++◌, length, take, drop, slice_index, Bool, true, false, ◌&&◌, ◌==◌, Option, Some, None, refl, sym, ap, subst, ◌∙◌, arith, ⊎_elim, inl, inr, drop-drop, length-drop, length-take-le, get_or-drop, take-append-drop, append_assoc, length-append, take-add, take_at, drop_at}
use Rattle.std.specs.List.{All}
use Rattle.std.specs.Char.{IsScalar, encode_utf8}
use Rattle.std.specs.Str.{encode_utf8_all}
use Rattle.std.proofs.lemmas.Bool.{cond_both, both_ways, and_parts, and_from, eq-eqb, eqb-true, eqb-false, cases_Bool, cases_lt, cases_eq, cond-true, cond-false}
use Rattle.std.proofs.lemmas.Bool.Decides.{nat_tests}
use Rattle.std.proofs.lemmas.List.Elements.{All-nil, All-cons, All-head, All-tail}
use Rattle.unicode_ident.specs.Ident.{is_xid_continue}
use Rattle.bstr.specs.Utf8.{Decoded, decoded}
use Rattle.bstr.proofs.lemmas.PieceLemmas.{size-within}
use Rattle.bstr.proofs.lemmas.SoundLemmas.{SpellsChar-decoded}
use Rattle.bstr.proofs.lemmas.EncodeLemmas.{decoded-encode}
use Rattle.sl_text.specs.declared.token.Kind.TheVariants as kind
use Rattle.sl_token.specs.declared.opening.Opening.TheVariants as opens
use Rattle.sl_token.specs.declared.piece.Piece.{Piece}
use Rattle.sl_token.specs.declared.piece.Piece.TheVariants.{Blank, Token, Fault}
use Rattle.sl_token.specs.Characters.{len_if, begins_identifier, start_len, continue_len}
use Rattle.sl_token.specs.Spellings.{begins_triple, name_len, is_word, triple_piece, raw_piece, name_piece}
use Rattle.sl_token.specs.Longest.{Continues, NothingContinues, IsTriple, IsRaw, IsIdentifier, IsName, IsPrefixed, Spells}
use Rattle.sl_token.proofs.Within.{Begun, name_len_within, begins_continues, starts_continues}
use Rattle.sl_token.proofs.Longest.Runs.{Longest}
use Rattle.sl_token.proofs.Longest.Texts.{triple_longest, raw_longest}

-- Characters -----------------------------------------------------------------------------------------------------------

-- the character of some bytes, which passes a test
pub record Read (passes : ℕ → Bool) (bytes : List ℕ) (len : ℕ) : Type 0 where
  pub character : ℕ
  pub scalar : IsScalar character
  pub spelled : take len bytes ≡ encode_utf8 character
  pub fits : len ≤ length bytes
  pub passed : passes character ≡ true

reads_by : (passes : ℕ → Bool) (found : Option ℕ) (size : ℕ) → len_if passes found size ≢ 0
    → (character : ℕ) × (found ≡ Some character) × (passes character ≡ true) × (len_if passes found size ≡ size)
reads_by passes None size h = absurd (h refl)
reads_by passes (Some character) size h =
    ⊎_elim
    (λ e. (character, refl, e, cond-true (passes character) size 0 e))
    (λ e. absurd (h (cond-false (passes character) size 0 e)))
    (cases_Bool (passes character))

pub reads : (passes : ℕ → Bool) (bytes : List ℕ) (len : ℕ) → len ≡ len_if passes (decoded bytes).char (decoded bytes).size → len ≢ 0 → Read passes bytes len
reads passes bytes len is some =
    let found = reads_by passes (decoded bytes).char (decoded bytes).size (λ none. some (is ∙ none)) in
    let spells = SpellsChar-decoded bytes found.0 found.1 in
    let size : len ≡ (decoded bytes).size = is ∙ found.3 in
    let width : length (encode_utf8 found.0) ≡ len = spells.width ∙ sym size in
    let most = size-within bytes in
    record {
      character = found.0;
      scalar = spells.scalar;
      spelled = ap (take len) spells.bytes ∙ take_at (encode_utf8 found.0) (drop (decoded bytes).size bytes) len width;
      fits = subst (λ n. n ≤ length bytes) (sym size) most;
      passed = found.2;
    }

start_reads : (bytes : List ℕ) → start_len bytes ≢ 0 → Read begins_identifier bytes (start_len bytes)
unfolding start_len
start_reads bytes some = reads begins_identifier bytes (start_len bytes) refl some

continue_reads : (bytes : List ℕ) → continue_len bytes ≢ 0 → Read is_xid_continue bytes (continue_len bytes)
unfolding continue_len
continue_reads bytes some = reads is_xid_continue bytes (continue_len bytes) refl some

-- Runs of characters ---------------------------------------------------------------------------------------------------

-- past the bytes inside a character
name_skip : (inside : ℕ) (bytes : List ℕ) → inside ≤ length bytes → name_len inside bytes ≡ inside + name_len 0 (drop inside bytes)
unfolding name_len
name_skip zero bytes fits = omega arith
name_skip (suc inside) [] fits = absurd (omega arith)
name_skip (suc inside) (byte ∷ bytes) fits = let rest = name_skip inside bytes (omega arith) in omega arith

name_stop : (bytes : List ℕ) → continue_len bytes ≡ 0 → name_len 0 bytes ≡ 0
unfolding name_len
name_stop [] none = refl
name_stop (byte ∷ bytes) none = cond-true (continue_len (byte ∷ bytes) == 0) 0 (1 + name_len (continue_len (byte ∷ bytes) - 1) bytes) (eq-eqb (continue_len (byte ∷ bytes)) 0 none)

-- past a character
name_step : (bytes : List ℕ) → continue_len bytes ≢ 0 → name_len 0 bytes ≡ continue_len bytes + name_len 0 (drop (continue_len bytes) bytes)
unfolding name_len
name_step [] some = absurd (let fits = (continue_reads [] some).fits in some (omega arith))
name_step (byte ∷ bytes) some =
    let len = continue_len (byte ∷ bytes) in
    let fits : len ≤ suc (length bytes) = (continue_reads (byte ∷ bytes) some).fits in
    ⊎_elim
    (λ e. absurd (some (eqb-true len 0 e)))
    (λ e.
    let on : name_len 0 (byte ∷ bytes) ≡ 1 + name_len (len - 1) bytes = cond-false (len == 0) 0 (1 + name_len (len - 1) bytes) e in
    let skip = name_skip (len - 1) bytes (omega arith) in
    let same : suc (len - 1) ≡ len = omega arith in
    let behind : drop (len - 1) bytes ≡ drop len (byte ∷ bytes) = ap (λ n. drop n (byte ∷ bytes)) same in
    let rest = ap (name_len 0) behind in
    omega arith)
    (cases_Bool (len == 0))

-- characters that continue an identifier, up to the first that doesn't
record Run (bytes : List ℕ) (n : ℕ) : Type 0 where
  pub rest : List ℕ
  pub continue : All Continues rest
  pub spelled : take n bytes ≡ encode_utf8_all rest
  pub whole : continue_len (drop n bytes) ≡ 0

-- one character more
taken : (bytes : List ℕ) (len n : ℕ) (character : ℕ) (rest : List ℕ) → take len bytes ≡ encode_utf8 character → take n (drop len bytes) ≡ encode_utf8_all rest
    → take (len + n) bytes ≡ encode_utf8_all (character ∷ rest)
taken bytes len n character rest one more = take-add len n bytes ∙ (ap (λ front. front ++ take n (drop len bytes)) one ∙ ap (λ back. encode_utf8 character ++ back) more)

run_stop : (bytes : List ℕ) → continue_len bytes ≡ 0 → Run bytes (name_len 0 bytes)
run_stop bytes none = subst (Run bytes) (sym (name_stop bytes none)) (record { rest = []; continue = All-nil Continues; spelled = refl; whole = none })

run_step : (bytes : List ℕ) → continue_len bytes ≢ 0 → Run (drop (continue_len bytes) bytes) (name_len 0 (drop (continue_len bytes) bytes)) → Run bytes (name_len 0 bytes)
run_step bytes some next =
    let len = continue_len bytes in
    let more = name_len 0 (drop len bytes) in
    let read = continue_reads bytes some in
    subst (Run bytes) (sym (name_step bytes some)) (record {
      rest = read.character ∷ next.rest;
      continue = All-cons Continues read.character next.rest (read.scalar, read.passed) next.continue;
      spelled = taken bytes len more read.character next.rest read.spelled next.spelled;
      whole = ap continue_len (sym (drop-drop more len bytes)) ∙ next.whole;
    })

run : (fuel : ℕ) (bytes : List ℕ) → length bytes ≤ fuel → Run bytes (name_len 0 bytes)
run zero bytes enough =
    ⊎_elim
    (λ none. run_stop bytes none)
    (λ some. absurd (let fits = (continue_reads bytes some).fits in some (omega arith)))
    (cases_eq (continue_len bytes) 0)
run (suc fuel) bytes enough =
    ⊎_elim
    (λ none. run_stop bytes none)
    (λ some.
    let rest = drop (continue_len bytes) bytes in
    let left = length-drop (continue_len bytes) bytes in
    run_step bytes some (run fuel rest (shorter some left)))
    (cases_eq (continue_len bytes) 0)
  where
    shorter : continue_len bytes ≢ 0 → length (drop (continue_len bytes) bytes) ≡ length bytes - continue_len bytes → length (drop (continue_len bytes) bytes) ≤ fuel
    shorter some left = omega arith

-- no character behind a name continues it
pub name_whole : (bytes : List ℕ) → continue_len (drop (name_len 0 bytes) bytes) ≡ 0
name_whole bytes = (run (length bytes) bytes (omega arith)).whole

-- an identifier, or `_`
pub name_spells : (bytes : List ℕ) → start_len bytes ≢ 0 → IsIdentifier bytes (name_len 0 bytes)
name_spells bytes some =
    let same = starts_continues bytes some in
    let read = start_reads bytes some in
    let len = start_len bytes in
    let rest = drop len bytes in
    let more = name_len 0 rest in
    let next = run (length rest) rest (omega arith) in
    let whole : name_len 0 bytes ≡ len + more = subst (λ n. name_len 0 bytes ≡ n + name_len 0 (drop n bytes)) same (name_step bytes (λ none. some (sym same ∙ none))) in
    record {
      first = read.character;
      rest = next.rest;
      scalar = read.scalar;
      begins = read.passed;
      continue = next.continue;
      fits = name_len_within 0 bytes;
      spelled = ap (λ n. take n bytes) whole ∙ taken bytes len more read.character next.rest read.spelled next.spelled;
    }

-- What is spelled is found ---------------------------------------------------------------------------------------------

-- a character takes bytes
pub encode_some : (character : ℕ) → 0 < length (encode_utf8 character)
unfolding encode_utf8
encode_some character = grind (arith, nat_tests)

-- a character that continues an identifier
continue_spelled : (character : ℕ) (rest : List ℕ) → Continues character → continue_len (encode_utf8 character ++ rest) ≡ length (encode_utf8 character)
unfolding continue_len
continue_spelled character rest is =
    let len = length (encode_utf8 character) in
    ap (λ (read : Decoded). len_if is_xid_continue read.char read.size) (decoded-encode character rest is.0) ∙ cond-true (is_xid_continue character) len 0 is.1

character_found : (character : ℕ) (rest : List ℕ) → Continues character → name_len 0 (encode_utf8 character ++ rest) ≡ length (encode_utf8 character) + name_len 0 rest
character_found character rest is =
    let bytes = encode_utf8 character ++ rest in
    let len = length (encode_utf8 character) in
    let found : continue_len bytes ≡ len = continue_spelled character rest is in
    let some = encode_some character in
    let behind : drop len bytes ≡ rest = drop_at (encode_utf8 character) rest len refl in
    subst (λ n. name_len 0 bytes ≡ n + name_len 0 (drop n bytes)) found (name_step bytes (λ none. positive len some (sym found ∙ none))) ∙ ap (λ rest. len + name_len 0 rest) behind
  where
    positive : (len : ℕ) → 0 < len → len ≡ 0 → ⊥
    positive len some none = omega arith

characters_found : (characters : List ℕ) (rest : List ℕ) → All Continues characters → name_len 0 (encode_utf8_all characters ++ rest) ≡ length (encode_utf8_all characters) + name_len 0 rest
characters_found [] rest all = omega arith
characters_found (character ∷ characters) rest all =
    let first = encode_utf8 character in
    let more = encode_utf8_all characters in
    let one = character_found character (more ++ rest) (All-head Continues character characters all) in
    let others = characters_found characters rest (All-tail Continues character characters all) in
    let size = length-append first more in
    let apart = ap (name_len 0) (append_assoc first more rest) in
    omega arith

-- the name goes on behind an identifier as it would alone
pub identifier_found : (bytes : List ℕ) (m : ℕ) → IsIdentifier bytes m → name_len 0 bytes ≡ m + name_len 0 (drop m bytes)
identifier_found bytes m is =
    let characters = is.first ∷ is.rest in
    let all = All-cons Continues is.first is.rest (is.scalar, begins_continues is.first is.begins) is.continue in
    let rest = drop m bytes in
    let found = characters_found characters rest all in
    let apart : encode_utf8_all characters ++ rest ≡ bytes = ap (λ front. front ++ rest) (sym is.spelled) ∙ take-append-drop m bytes in
    let size : length (encode_utf8_all characters) ≡ m = ap length (sym is.spelled) ∙ length-take-le m bytes is.fits in
    ap (name_len 0) (sym apart) ∙ (found ∙ ap (λ n. n + name_len 0 rest) size)

pub identifier_most : (bytes : List ℕ) (m : ℕ) → IsIdentifier bytes m → m ≤ name_len 0 bytes
identifier_most bytes m is = let found = identifier_found bytes m is in omega arith

-- that no character continues an identifier, by its bytes and by `continue_len`
nothing_continues : (bytes : List ℕ) → continue_len bytes ≡ 0 → NothingContinues bytes
nothing_continues bytes none character rest is spelled =
    let found = ap continue_len spelled ∙ continue_spelled character rest is in
    let some = encode_some character in
    absurd (omega arith)

none_continues : (bytes : List ℕ) → NothingContinues bytes → continue_len bytes ≡ 0
none_continues bytes nothing =
    ⊎_elim
    (λ none. none)
    (λ some.
    let read = continue_reads bytes some in
    let rest = drop (continue_len bytes) bytes in
    absurd (nothing read.character rest (read.scalar, read.passed) (sym (take-append-drop (continue_len bytes) bytes) ∙ ap (λ front. front ++ rest) read.spelled)))
    (cases_eq (continue_len bytes) 0)

-- an identifier that no character behind it continues
whole_name : (bytes : List ℕ) (m : ℕ) → IsIdentifier bytes m → continue_len (drop m bytes) ≡ 0 → m ≡ name_len 0 bytes
whole_name bytes m is none = let found = identifier_found bytes m is in let stops = name_stop (drop m bytes) none in omega arith

-- `_` alone is a Mark
pub lone_byte : (bytes : List ℕ) (n : ℕ) (byte : ℕ) → n ≤ length bytes → take n bytes ≡ byte ∷ [] → (n ≡ 1) × (slice_index bytes 0 ≡ byte)
lone_byte bytes n byte fits e =
    let size = length-take-le n bytes fits in
    let one : length (take n bytes) ≡ 1 = ap length e in
    (omega arith, first bytes (subst (λ n. take n bytes ≡ byte ∷ []) (sym size ∙ one) e))
  where
    first : (bytes : List ℕ) → take 1 bytes ≡ byte ∷ [] → slice_index bytes 0 ≡ byte
    first [] e = absurd (let size : 0 ≡ 1 = ap length e in omega arith)
    first (b ∷ bytes) e = ap (λ bytes. slice_index bytes 0) e

pub alone : (bytes : List ℕ) → slice_index bytes 0 ≡ 95 → take 1 bytes ≡ 95 ∷ []
alone [] e = absurd (omega arith)
alone (byte ∷ bytes) e = ap (λ byte. byte ∷ []) e

-- Pieces ---------------------------------------------------------------------------------------------------------------

-- another way to spell adds nothing longer
widened : (Spelled Wider : ℕ → Type 0) → ((n : ℕ) → Spelled n → Wider n) → ((n m : ℕ) → Spelled n → Wider m → (m ≤ n) ⊎ Spelled m)
    → (piece : Piece) → Longest Spelled piece → Longest Wider piece
widened Spelled Wider wider other (Blank n) is = (wider n is.0, λ m spelled. ⊎_elim (λ least. least) (λ spelled. is.1 m spelled) (other n m is.0 spelled))
widened Spelled Wider wider other (Token of n) is = (wider n is.0, λ m spelled. ⊎_elim (λ least. least) (λ spelled. is.1 m spelled) (other n m is.0 spelled))
widened Spelled Wider wider other (Fault number at) is = tt

-- of three marks the second
pub second_mark : (at : ℕ) (bytes : List ℕ) → begins_triple (drop at bytes) ≡ true → slice_index (drop (at + 1) bytes) 0 ≡ 34
unfolding begins_triple
second_mark at bytes e =
    let rest = drop at bytes in
    let two = and_parts (slice_index rest 0 == 34 && slice_index rest 1 == 34) (slice_index rest 2 == 34) e in
    let one = and_parts (slice_index rest 0 == 34) (slice_index rest 1 == 34) two.0 in
    let mark : slice_index rest 1 ≡ 34 = eqb-true (slice_index rest 1) 34 one.1 in
    let place : at + 1 ≡ at + 1 + 0 = omega arith in
    get_or-drop (at + 1) bytes 0 0 ∙ (ap (λ n. slice_index bytes n) (sym place) ∙ (sym (get_or-drop at bytes 1 0) ∙ mark))

module _ (bytes : List ℕ) (begun : start_len bytes ≢ 0) where
  -- how long the name is
  abbrev len : ℕ
  len = name_len 0 bytes

  abbrev Either : ℕ → Type 0
  Either n = IsIdentifier bytes n ⊎ IsPrefixed bytes n

  -- a text stands behind the whole name
  place : (m : ℕ) (is : IsPrefixed bytes m) → is.at ≡ len
  place m is = whole_name bytes is.at is.name.0 (none_continues (drop is.at bytes) is.whole)

  triple_behind : (m : ℕ) (is : IsPrefixed bytes m) → IsTriple bytes is.at m → IsTriple bytes len m
  triple_behind m is text = subst (λ at. IsTriple bytes at m) (place m is) text

  raw_behind : (m : ℕ) (is : IsPrefixed bytes m) → IsRaw bytes is.at m → IsRaw bytes len m
  raw_behind m is text = subst (λ at. IsRaw bytes at m) (place m is) text

  -- the Mark `_`
  mark_alone : (len == 1 && slice_index bytes 0 == 95) ≡ true → Longest Either (Token kind.Mark 1)
  mark_alone e =
      let parts = and_parts (len == 1) (slice_index bytes 0 == 95) e in
      let one : len ≡ 1 = eqb-true len 1 parts.0 in (
        inl (subst (IsIdentifier bytes) one (name_spells bytes begun)),
        λ m spelled. ⊎_elim
            (λ is. let most = identifier_most bytes m is in omega arith)
            (λ is. absurd (is.name.1 (subst (λ n. take n bytes ≡ 95 ∷ []) (sym (place m is ∙ one)) (alone bytes (eqb-true (slice_index bytes 0) 95 parts.1)))))
            spelled,
      )

  -- an identifier
  pub is_name : (len == 1 && slice_index bytes 0 == 95) ≡ false → IsName bytes len
  is_name e = (
    name_spells bytes begun,
    λ is.
        let lone = lone_byte bytes len 95 (name_len_within 0 bytes) is in
        both_ways (len == 1 && slice_index bytes 0 == 95) e (and_from (len == 1) (slice_index bytes 0 == 95) (eq-eqb len 1 lone.0) (eq-eqb (slice_index bytes 0) 95 lone.1)),
  )

  triple_after : IsName bytes len → begins_triple (drop len bytes) ≡ true → Longest Either (triple_piece kind.Prefixed bytes len)
  triple_after name e =
      widened (IsTriple bytes len) Either
      (λ n text. inr (record { at = len; name = name; whole = nothing_continues (drop len bytes) (name_whole bytes); text = inl text }))
      (λ n m text spelled. ⊎_elim
      (λ is. inl (let most = identifier_most bytes m is in let is = text.is in let apart = text.apart in omega arith))
      (λ is. ⊎_elim
      (λ other. inr (triple_behind m is other))
      (λ other. inl (short n m text (raw_behind m is other)))
      is.text)
      spelled)
      (triple_piece kind.Prefixed bytes len)
      (triple_longest kind.Prefixed bytes len e)
    where
      second : slice_index (drop (len + 1) bytes) 0 ≡ 34
      second = second_mark len bytes e

      short : (n m : ℕ) → IsTriple bytes len n → IsRaw bytes len m → m ≤ n
      short n m text raw =
          let is = text.is in
          let apart = text.apart in
          let raw_is = raw.is in
          ⊎_elim
          (λ some. absurd ((raw.content 0 some).0 second))
          (λ none. omega arith)
          (cases_lt 0 raw.len)

  raw_after : IsName bytes len → begins_triple (drop len bytes) ≡ false → slice_index (drop len bytes) 0 ≡ 34 → Longest Either (raw_piece bytes len)
  raw_after name missing e =
      let mark : slice_index bytes len ≡ 34 = subst (λ n. slice_index bytes n ≡ 34) same (sym (get_or-drop len bytes 0 0) ∙ e) in
      widened (IsRaw bytes len) Either
      (λ n text. inr (record { at = len; name = name; whole = nothing_continues (drop len bytes) (name_whole bytes); text = inr text }))
      (λ n m text spelled. ⊎_elim
      (λ is. inl (let most = identifier_most bytes m is in let is = text.is in omega arith))
      (λ is. ⊎_elim
      (λ other. absurd (both_ways (begins_triple (drop len bytes)) missing (triple_behind m is other).opened))
      (λ other. inr (raw_behind m is other))
      is.text)
      spelled)
      (raw_piece bytes len)
      (raw_longest bytes len mark)
    where
      same : len + 0 ≡ len
      same = omega arith

  name_alone : IsName bytes len → begins_triple (drop len bytes) ≡ false → (slice_index (drop len bytes) 0 ≡ 34 → ⊥) → Spells opens.Name bytes len × ((m : ℕ) → Spells opens.Name bytes m → m ≤ len)
  name_alone name missing none = (
    inl name.0,
    λ m spelled. ⊎_elim
        (λ is. identifier_most bytes m is)
        (λ is. ⊎_elim
        (λ other. absurd (both_ways (begins_triple (drop len bytes)) missing (triple_behind m is other).opened))
        (λ other. absurd (none (get_or-drop len bytes 0 0 ∙ subst (λ n. slice_index bytes n ≡ 34) same (raw_behind m is other).opened)))
        is.text)
        spelled,
  )
    where
      same : len ≡ len + 0
      same = omega arith

pub name_longest : (bytes : List ℕ) → Begun opens.Name bytes → Longest (Spells opens.Name bytes) (name_piece bytes)
unfolding name_piece
name_longest bytes h =
    let len = name_len 0 bytes in
    let rest = drop len bytes in
    let P = Longest (Spells opens.Name bytes) in
    cond_both (len == 1 && slice_index bytes 0 == 95) (Token kind.Mark 1) _ P (λ e. mark_alone bytes h e) (λ a.
    let name = is_name bytes h a in
    cond_both (begins_triple rest) (triple_piece kind.Prefixed bytes len) _ P (λ e. triple_after bytes h name e) (λ b.
    cond_both (slice_index rest 0 == 34) (raw_piece bytes len) _ P (λ e. raw_after bytes h name b (eqb-true (slice_index rest 0) 34 e)) (λ c.
    let is = name_alone bytes h name b (eqb-false (slice_index rest 0) 34 c) in
    cond_both (is_word (take len bytes)) (Token kind.Word len) (Token kind.Ident len) P (λ e. is) (λ e. is))))
