-- The blanks before a token are spaces and line feeds, and each token ends where they begin.
use Rattle.std.proofs.Common.{◌≡◌, ◌≢◌, ◌⊎◌, ℕ, ◌-◌, ◌*◌, List, [], ◌∷◌, ◌++◌, map, replicate, Bool, true, false, ◌||◌, refl, ap, subst, inl, inr, ⊎_elim, All, codes, bytes_eq}
use Rattle.std.specs.Prelude.{◌==◌, if◌then◌else◌}
use Rattle.std.specs.List.{flat_map}
use Rattle.std.proofs.lemmas.Bool.{cond_both, cases_Bool, both_ways, or_cases, or_left, or_right}
use Rattle.std.proofs.lemmas.List.Elements.{All-nil, All-cons, All-map, All-weaker, All-replicate}
use Rattle.c_tree.specs.Flat.{Lexeme}
use Rattle.c_tree.specs.Words.{IsToken}
use Rattle.c_tree.specs.Text.{IsBlank, AreBlanks, IsLongest}
use Rattle.c_write.specs.declared.layout.After.{After}
use Rattle.c_write.specs.declared.layout.After.TheVariants.{Nothing, Line, Block, Bracket, Spaced, Other}
use Rattle.c_write.specs.declared.layout.Place.{Place}
use Rattle.c_write.specs.Layout.{is_one_of, opening, closing, applying, is_sign, keywords, operators, comparisons, after_token, next_depth, moved, new_line, space_before, gap_after, laid}
use Rattle.c_write.proofs.Ends.{one_passes, ends_token, begins_plus, ends_token-append, EndsBefore, EndsBefore-append, longest_before, longest_tight}

-- a space or a line feed
abbrev pub IsSpace : ℕ → Type 0
IsSpace byte = (byte ≡ 32) ⊎ (byte ≡ 10)

-- one of these is a blank
space_blank : (byte : ℕ) → IsSpace byte → IsBlank (byte ∷ [])
space_blank byte (inl e) = inl (ap (λ b. b ∷ []) e)
space_blank byte (inr e) = inr (inl (ap (λ b. b ∷ []) e))

-- bytes are their bytes, one by one
one_by_one : (bytes : List ℕ) → bytes ≡ flat_map (λ blank. blank) (map (λ byte. byte ∷ []) bytes)
one_by_one [] = refl
one_by_one (byte ∷ bytes) = ap (λ rest. byte ∷ rest) (one_by_one bytes)

-- spaces and line feeds are blanks
pub spaces_blanks : (bytes : List ℕ) → All IsSpace bytes → AreBlanks bytes
spaces_blanks bytes are = (
  map (λ byte. byte ∷ []) bytes,
  All-map IsBlank (λ byte. byte ∷ []) bytes (All-weaker IsSpace (λ byte. IsBlank (byte ∷ [])) space_blank bytes are),
  one_by_one bytes,
)

-- a space, a line feed, and the beginning of a line are such bytes
one_space : All IsSpace (32 ∷ [])
one_space = All-cons IsSpace 32 [] (inl refl) (All-nil IsSpace)

pub one_feed : All IsSpace (10 ∷ [])
one_feed = All-cons IsSpace 10 [] (inr refl) (All-nil IsSpace)

new_line_spaces : (depth : ℕ) (next : List ℕ) → All IsSpace (new_line depth next)
new_line_spaces depth next =
    let count = 4 * (if bytes_eq (codes "}") next then depth - 1 else depth)
    in All-cons IsSpace 10 (replicate count 32) (inr refl) (All-replicate IsSpace count 32 (inl refl))

-- so is a space that may be missing
space_before_spaces : (tight : List (List ℕ)) (next : List ℕ) → All IsSpace (space_before tight next)
space_before_spaces tight next = cond_both (is_one_of tight next) [] (32 ∷ []) (All IsSpace) (λ e. All-nil IsSpace) (λ e. one_space)

-- what holds of each that may stand behind a block holds of the blanks there
block_gap : (depth : ℕ) (next : List ℕ) (P : List ℕ → Type 0) → (bytes_eq (codes ";") next ≡ true → P []) → P (32 ∷ []) → P (10 ∷ 10 ∷ []) → P (new_line depth next) → P (gap_after Block depth next)
block_gap depth next P none space lines line =
    let apart = if depth == 0 then 10 ∷ 10 ∷ [] else new_line depth next
    in cond_both (bytes_eq (codes ";") next) [] (if bytes_eq (codes "else") next then 32 ∷ [] else apart) P none
    (λ e. cond_both (bytes_eq (codes "else") next) (32 ∷ []) apart P (λ f. space)
    (λ f. cond_both (depth == 0) (10 ∷ 10 ∷ []) (new_line depth next) P (λ g. lines) (λ g. line)))

-- the blanks before a token are such
pub gap_spaces : (after : After) (depth : ℕ) (next : List ℕ) → All IsSpace (gap_after after depth next)
gap_spaces Nothing depth next = All-nil IsSpace
gap_spaces Line depth next = new_line_spaces depth next
gap_spaces Block depth next =
    block_gap depth next (All IsSpace) (λ e. All-nil IsSpace) one_space (All-cons IsSpace 10 (10 ∷ []) (inr refl) one_feed) (new_line_spaces depth next)
gap_spaces Bracket depth next = All-nil IsSpace
gap_spaces Spaced depth next = space_before_spaces closing next
gap_spaces Other depth next = space_before_spaces (closing ++ applying) next

-- each token ends before a mark that closes, and before a space
closing_ends : (next more : List ℕ) → ends_token (space_before closing next ++ next ++ more) ≡ true
closing_ends next more =
    cond_both (is_one_of closing next) [] (32 ∷ []) (λ space. ends_token (space ++ next ++ more) ≡ true)
    (λ e. ends_token-append next more (one_passes ends_token closing next refl e))
    (λ e. refl)

-- each but `+` ends before a mark that follows a name too
applying_ends : (spelling next more : List ℕ) → spelling ≢ codes "+" → EndsBefore spelling (space_before (closing ++ applying) next ++ next ++ more)
applying_ends spelling next more other =
    cond_both (is_one_of (closing ++ applying) next) [] (32 ∷ []) (λ space. EndsBefore spelling (space ++ next ++ more))
    (λ e. EndsBefore-append spelling next more
    (⊎_elim inl (λ plus. inr (other, plus)) (or_cases (ends_token next) (begins_plus next) (one_passes (λ mark. ends_token mark || begins_plus mark) (closing ++ applying) next refl e))))
    (λ e. inl refl)

-- each token ends before the blanks and the token behind it, but at the beginning and behind `(`, `[` and `.`
gap_ends : (after : After) (depth : ℕ) (spelling next more : List ℕ) → after ≢ Nothing → after ≢ Bracket → (after ≡ Other → spelling ≢ codes "+") → EndsBefore spelling (gap_after after depth next ++ next ++ more)
gap_ends Nothing depth spelling next more some beside plus = absurd (some refl)
gap_ends Line depth spelling next more some beside plus = inl refl
gap_ends Block depth spelling next more some beside plus =
    inl (block_gap depth next (λ blanks. ends_token (blanks ++ next ++ more) ≡ true)
    (λ e. ends_token-append next more (one_passes ends_token (codes ";" ∷ []) next refl (or_left (bytes_eq (codes ";") next) false e)))
    refl refl refl)
gap_ends Bracket depth spelling next more some beside plus = absurd (beside refl)
gap_ends Spaced depth spelling next more some beside plus = inl (closing_ends next more)
gap_ends Other depth spelling next more some beside plus = applying_ends spelling next more (plus refl)

-- by six tests nothing is never chosen, a bracket only where the fifth passes, and another token only where the last doesn't
chosen : (block brace line in_head bracket space : Bool) → let after = if block then Block else if brace then Line else if line then (if in_head then Spaced else Line) else if bracket then Bracket else if space then Spaced else Other in (after ≢ Nothing) × (after ≡ Bracket → bracket ≡ true) × (after ≡ Other → space ≡ false)
chosen true brace line in_head bracket space = (λ e. cc, λ e. cc, λ e. cc)
chosen false true line in_head bracket space = (λ e. cc, λ e. cc, λ e. cc)
chosen false false true true bracket space = (λ e. cc, λ e. cc, λ e. cc)
chosen false false true false bracket space = (λ e. cc, λ e. cc, λ e. cc)
chosen false false false in_head true space = (λ e. cc, λ e. refl, λ e. cc)
chosen false false false in_head false true = (λ e. cc, λ e. cc, λ e. cc)
chosen false false false in_head false false = (λ e. cc, λ e. cc, λ e. refl)

-- whether nothing stands behind a token on its line, and whether a space does
abbrev is_tight : After → List ℕ → Bool
is_tight before spelling = is_sign before spelling || is_one_of opening spelling

abbrev is_spaced : List ℕ → Bool
is_spaced spelling = is_one_of keywords spelling || is_one_of operators spelling || is_one_of comparisons spelling

-- so a token is never nothing, it is such a bracket only where it is `(`, `[`, `.` or a sign, and another only where it has no space
token_chosen : (place : Place) (spelling : List ℕ) → let after = after_token place spelling in (after ≢ Nothing) × (after ≡ Bracket → is_tight place.after spelling ≡ true) × (after ≡ Other → is_spaced spelling ≡ false)
token_chosen place spelling =
    chosen (bytes_eq (codes "}") spelling) (bytes_eq (codes "{") spelling) (bytes_eq (codes ";") spelling) place.in_head (is_tight place.after spelling) (is_spaced spelling)

-- a token with no space behind it is no `+`
not_spaced : (spelling : List ℕ) → is_spaced spelling ≡ false → spelling ≢ codes "+"
not_spaced spelling none e =
    let not_so : true ≡ false = subst (λ s. is_spaced s ≡ false) e none
    in cc

-- a token other than these ends before what is laid behind it
behind_ends : (place : Place) (spelling : List ℕ) (tokens : List Lexeme) → is_tight place.after spelling ≡ false → EndsBefore spelling (laid (moved place spelling) tokens ++ codes "\n")
behind_ends place spelling [] other = inl refl
behind_ends place spelling (token ∷ tokens) other =
    let after = after_token place spelling in
    let depth = next_depth place.depth spelling in
    let more = laid (moved (moved place spelling) token.spelling) tokens in
    let chosen_so = token_chosen place spelling
    in EndsBefore-append spelling (gap_after after depth token.spelling ++ token.spelling ++ more) (codes "\n")
    (gap_ends after depth spelling token.spelling more chosen_so.0 (λ e. both_ways (is_tight place.after spelling) other (chosen_so.1 e)) (λ e. not_spaced spelling (chosen_so.2 e)))

-- then it is one of these marks
tight_one : (before : After) (spelling : List ℕ) → is_tight before spelling ≡ true → is_one_of (codes "-" ∷ opening) spelling ≡ true
tight_one Nothing spelling e = or_right (bytes_eq (codes "-") spelling) (is_one_of opening spelling) e
tight_one Line spelling e = or_right (bytes_eq (codes "-") spelling) (is_one_of opening spelling) e
tight_one Block spelling e = or_right (bytes_eq (codes "-") spelling) (is_one_of opening spelling) e
tight_one Bracket spelling e = e
tight_one Spaced spelling e = or_right (bytes_eq (codes "-") spelling) (is_one_of opening spelling) e
tight_one Other spelling e = or_right (bytes_eq (codes "-") spelling) (is_one_of opening spelling) e

-- each token is the longest with which it and what is laid behind it begin
pub longest_laid : (place : Place) (spelling : List ℕ) (tokens : List Lexeme) → IsToken spelling → IsLongest spelling (laid (moved place spelling) tokens ++ codes "\n")
longest_laid place spelling tokens is =
    let behind = laid (moved place spelling) tokens ++ codes "\n"
    in ⊎_elim
    (λ tight. longest_tight spelling behind (tight_one place.after spelling tight) is)
    (λ other. longest_before spelling behind is (behind_ends place spelling tokens other))
    (cases_Bool (is_tight place.after spelling))
