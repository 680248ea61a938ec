-- How a run goes on at a place.
use Rattle.std.proofs.Common.{◌≡◌, ◌≢◌, ◌==◌, ℕ, zero, suc, ◌+◌, ◌-◌, ◌<◌, ◌≤◌, List, [], ◌∷◌, length, drop, slice_index, Bool, true, false, Option, Some, None, refl, sym, ap, subst, ◌∙◌, arith}
use Rattle.std.proofs.lemmas.Bool.{cond-true, cond-false}
use Rattle.std.proofs.lemmas.Bool.Decides.{nat_tests}
use Rattle.std.proofs.lemmas.List.{drop_more, at_drop_more, at_drop_all}
use Rattle.sl_token.specs.Spellings.{more, goes_on, operator_len, name_len, escapes, ends_text, text_len, marks_behind, triple_len, depth_behind, before_behind, comment_len, is_bad, bad_escape}
use Rattle.sl_token.specs.Characters.{continue_len}

-- so many bytes more, and one more
pub more_more : (count : ℕ) (len : Option ℕ) → more count (more 1 len) ≡ more (count + 1) len
more_more count None = refl
more_more count (Some n) = ap Some (omega arith)

is_same : (a b : ℕ) → a ≡ b → (a == b) ≡ true
is_same a b is = grind (arith, nat_tests)

is_not_same : (a b : ℕ) → a ≢ b → (a == b) ≡ false
is_not_same a b isnt = grind (arith, nat_tests)

-- a text's content

pub text_stops : (bytes : List ℕ) (at : ℕ) (escaped : Bool) → at < length bytes → ends_text (slice_index bytes at) escaped ≡ true
    → text_len escaped (drop at bytes) ≡ 0
unfolding text_len
text_stops bytes at escaped within is = at_drop_more (text_len escaped) bytes at 0 within ∙ cond-true _ _ _ is

pub text_goes_on : (bytes : List ℕ) (at : ℕ) (escaped : Bool) → at < length bytes → ends_text (slice_index bytes at) escaped ≡ false
    → text_len escaped (drop at bytes) ≡ 1 + text_len (escapes (slice_index bytes at) escaped) (drop (at + 1) bytes)
unfolding text_len
text_goes_on bytes at escaped within is = at_drop_more (text_len escaped) bytes at 0 within ∙ cond-false _ _ _ is

pub text_ends : (bytes : List ℕ) (at : ℕ) (escaped : Bool) → length bytes ≤ at → text_len escaped (drop at bytes) ≡ 0
unfolding text_len
text_ends bytes at escaped past = at_drop_all (text_len escaped) bytes at past

-- a run of operator characters

pub operator_stops : (bytes : List ℕ) (at : ℕ) → at < length bytes → goes_on (drop at bytes) ≡ false → operator_len (drop at bytes) ≡ 0
unfolding operator_len
operator_stops bytes at within is =
    let here = drop_more bytes at 0 within
    in ap operator_len here ∙ cond-false _ _ _ (ap goes_on (sym here) ∙ is)

pub operator_goes_on : (bytes : List ℕ) (at : ℕ) → at < length bytes → goes_on (drop at bytes) ≡ true
    → operator_len (drop at bytes) ≡ 1 + operator_len (drop (at + 1) bytes)
unfolding operator_len
operator_goes_on bytes at within is =
    let here = drop_more bytes at 0 within
    in ap operator_len here ∙ cond-true _ _ _ (ap goes_on (sym here) ∙ is)

pub operator_ends : (bytes : List ℕ) (at : ℕ) → length bytes ≤ at → operator_len (drop at bytes) ≡ 0
unfolding operator_len
operator_ends bytes at past = at_drop_all operator_len bytes at past

-- three quotation marks

pub marks_end : (bytes : List ℕ) (at marks : ℕ) → at < length bytes → marks_behind marks (slice_index bytes at) ≡ 3
    → triple_len marks (drop at bytes) ≡ Some 1
unfolding triple_len
marks_end bytes at marks within is = at_drop_more (triple_len marks) bytes at 0 within ∙ cond-true _ _ _ (is_same _ _ is)

pub marks_go_on : (bytes : List ℕ) (at marks : ℕ) → at < length bytes → marks_behind marks (slice_index bytes at) ≢ 3
    → triple_len marks (drop at bytes) ≡ more 1 (triple_len (marks_behind marks (slice_index bytes at)) (drop (at + 1) bytes))
unfolding triple_len
marks_go_on bytes at marks within isnt = at_drop_more (triple_len marks) bytes at 0 within ∙ cond-false _ _ _ (is_not_same _ _ isnt)

pub triple_ends : (bytes : List ℕ) (at marks : ℕ) → length bytes ≤ at → triple_len marks (drop at bytes) ≡ None
unfolding triple_len
triple_ends bytes at marks past = at_drop_all (triple_len marks) bytes at past

-- a comment

pub comment_ends : (bytes : List ℕ) (at depth before : ℕ) → at < length bytes → depth_behind depth before (slice_index bytes at) ≡ 0
    → comment_len depth before (drop at bytes) ≡ Some 1
unfolding comment_len
comment_ends bytes at depth before within is = at_drop_more (comment_len depth before) bytes at 0 within ∙ cond-true _ _ _ (is_same _ _ is)

pub comment_goes_on : (bytes : List ℕ) (at depth before : ℕ) → at < length bytes
    → depth_behind depth before (slice_index bytes at) ≢ 0
    → comment_len depth before (drop at bytes)
    ≡ more 1 (comment_len (depth_behind depth before (slice_index bytes at)) (before_behind before (slice_index bytes at)) (drop (at + 1) bytes))
unfolding comment_len
comment_goes_on bytes at depth before within isnt =
    at_drop_more (comment_len depth before) bytes at 0 within ∙ cond-false _ _ _ (is_not_same _ _ isnt)

pub comment_unended : (bytes : List ℕ) (at depth before : ℕ) → length bytes ≤ at → comment_len depth before (drop at bytes) ≡ None
unfolding comment_len
comment_unended bytes at depth before past = at_drop_all (comment_len depth before) bytes at past

-- a backslash that begins no escape

pub bad_here : (bytes : List ℕ) (at : ℕ) (escaped : Bool) → at < length bytes → is_bad (drop at bytes) escaped ≡ true
    → bad_escape escaped (drop at bytes) ≡ Some 0
unfolding bad_escape
bad_here bytes at escaped within is =
    let here = drop_more bytes at 0 within
    in ap (bad_escape escaped) here ∙ cond-true _ _ _ (ap (λ rest. is_bad rest escaped) (sym here) ∙ is)

pub bad_later : (bytes : List ℕ) (at : ℕ) (escaped : Bool) → at < length bytes → is_bad (drop at bytes) escaped ≡ false
    → bad_escape escaped (drop at bytes) ≡ more 1 (bad_escape (escapes (slice_index bytes at) escaped) (drop (at + 1) bytes))
unfolding bad_escape
bad_later bytes at escaped within is =
    let here = drop_more bytes at 0 within
    in ap (bad_escape escaped) here ∙ cond-false _ _ _ (ap (λ rest. is_bad rest escaped) (sym here) ∙ is)

pub bad_nowhere : (bytes : List ℕ) (at : ℕ) (escaped : Bool) → length bytes ≤ at → bad_escape escaped (drop at bytes) ≡ None
unfolding bad_escape
bad_nowhere bytes at escaped past = at_drop_all (bad_escape escaped) bytes at past

-- the characters of an identifier

pub name_inside : (inside : ℕ) (bytes : List ℕ) → inside ≤ length bytes → name_len inside bytes ≡ inside + name_len 0 (drop inside bytes)
unfolding name_len
name_inside zero bytes within = omega arith
name_inside (suc inside) [] within = absurd (omega arith)
name_inside (suc inside) (byte ∷ bytes) within =
    let rest = name_inside inside bytes (omega arith) in
    omega arith

pub name_stops : (bytes : List ℕ) → continue_len bytes ≡ 0 → name_len 0 bytes ≡ 0
unfolding name_len
name_stops [] is = refl
name_stops (byte ∷ bytes) is = cond-true _ _ _ (is_same _ _ is)

pub name_goes_on : (bytes : List ℕ) → continue_len bytes ≢ 0 → continue_len bytes ≤ length bytes
    → name_len 0 bytes ≡ continue_len bytes + name_len 0 (drop (continue_len bytes) bytes)
unfolding name_len
name_goes_on [] isnt within = absurd (isnt (omega arith))
name_goes_on (byte ∷ bytes) isnt within =
    let len = continue_len (byte ∷ bytes) in
    let some : 0 < len = omega arith in
    let same : len ≡ suc (len - 1) = omega arith in
    let goes = cond-false (len == 0) 0 (1 + name_len (len - 1) bytes) (is_not_same _ _ isnt) in
    let rest = name_inside (len - 1) bytes (omega arith) in
    let behind = ap (λ n. name_len 0 (drop n (byte ∷ bytes))) same in
    goes ∙ omega arith

-- the same, with the character's length by another name
pub rest_of_name : (bytes : List ℕ) (more : ℕ) → more ≡ continue_len bytes → more ≢ 0 → more ≤ length bytes
    → name_len 0 bytes ≡ more + name_len 0 (drop more bytes)
rest_of_name bytes more is isnt within =
    name_goes_on bytes (λ none. isnt (is ∙ none)) (subst (λ n. n ≤ length bytes) is within) ∙ ap (λ n. n + name_len 0 (drop n bytes)) (sym is)

pub name_ends : (bytes : List ℕ) (at : ℕ) → length bytes ≤ at → name_len 0 (drop at bytes) ≡ 0
unfolding name_len
name_ends bytes at past = at_drop_all (name_len 0) bytes at past
