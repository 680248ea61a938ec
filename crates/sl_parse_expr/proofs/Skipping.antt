-- Statements that are skipped: the sorts that close what is open, and what was taken so far.
use Rattle.std.proofs.Common.{◌≡◌, ℕ, suc, ◌<◌, ◌≤◌, List, [], ◌∷◌, ◌++◌, length, map, refl, sym, ap, ◌∙◌, subst, Bool, true, false, if◌then◌else◌, ◌⊎◌, inl, inr, append_assoc, rules}
use Rattle.std.specs.Prelude.{eqb, ◌↔◌, IsTrue}
use Rattle.std.proofs.lemmas.Bool.{eqb-true, eq-eqb, ne_eqb}
use Rattle.std.proofs.lemmas.List.{append-nil, map-append, same_from_push}
use Rattle.sl_text.specs.declared.place.Span.{Span}
use Rattle.sl_text.specs.declared.token.Token.{Token}
use Rattle.sl_grammar.specs.Phrase.{Found, Done, Stopped, found_then, read_token}
use Rattle.sl_grammar.specs.Law.{found_as}
use Rattle.sl_grammar.specs.Grammar.{has, is}
use Rattle.sl_grammar.specs.Brackets.{Bracket, Opens, Closes, Plain, opens, read_closing, read_group}
use Rattle.sl_grammar.proofs.Groups.{step_opens, step_plain, step_wrong, step_closes, step_group}
use Rattle.sl_tree.specs.Sorts.{Spelled, spelled, sort, lexeme, left_parenthesis, right_parenthesis, left_bracket, right_bracket, left_brace, right_brace, contract_name, prefixed_l}
use Rattle.sl_tree.specs.WellShaped.{Bracket_kind, Round, Square, Curly, same_bracket, bracket_of, join, last_of, stmt}
use Rattle.sl_tree.specs.declared.tree.Lexeme.{Lexeme}
use Rattle.sl_tree.specs.declared.tree.Stmt.{roll-Stmt}
use Rattle.sl_tree.specs.declared.tree.StmtKind.TheVariants as stmt_kind
use Rattle.sl_parse_expr.specs.Values.{skip_from}
use Rattle.sl_parse_expr.specs.Told.{behind, read_skip, skip_view}
use Rattle.std.proofs.Math.ListN.{get_or}
use Rattle.sl_parse_expr.proofs.Behind.{behind_more, behind_end}
use Rattle.sl_parse_expr.proofs.Group.{same_is, same_refl, first_opens, opens_first}

-- the sort that closes each kind
abbrev pub closer : Bracket_kind → ℕ
closer Round = 1
closer Square = 3
closer Curly = 5

closer_is : (m n : Bracket_kind) → closer m ≡ closer n → m ≡ n
closer_is Round Round e = refl
closer_is Square Square e = refl
closer_is Curly Curly e = refl
closer_is Round Square e = cc
closer_is Round Curly e = cc
closer_is Square Round e = cc
closer_is Square Curly e = cc
closer_is Curly Round e = cc
closer_is Curly Square e = cc

not_same : (m n : Bracket_kind) → (m ≡ n → ⊥) → same_bracket m n ≡ false
not_same m n d = by (same_bracket m n) refl
  where
    by : (b : Bool) → same_bracket m n ≡ b → same_bracket m n ≡ false
    by true e = absurd (d (same_is m n e))
    by false e = e

-- the sorts that close all that is open, the innermost last
abbrev pub closers : List Bracket_kind → List ℕ
closers [] = []
closers (n ∷ ns) = closers ns ++ closer n ∷ []

some : (xs : List ℕ) (x : ℕ) → xs ++ x ∷ [] ≡ [] → ⊥
some [] x e = cc
some (y ∷ ys) x e = cc

-- a test of one of three sorts
one_of_three : (a b c s : ℕ) → has (a ∷ b ∷ c ∷ []) s ≡ true → (s ≡ a) ⊎ ((s ≡ b) ⊎ (s ≡ c))
one_of_three a b c s h = by (eqb a s) (eqb b s) (eqb c s) refl refl refl h
  where
    by : (x y z : Bool) → eqb a s ≡ x → eqb b s ≡ y → eqb c s ≡ z → (if x then true else if y then true else if z then true else false) ≡ true → (s ≡ a) ⊎ ((s ≡ b) ⊎ (s ≡ c))
    by true y z e f g h = inl (sym (eqb-true a s e))
    by false true z e f g h = inr (inl (sym (eqb-true b s f)))
    by false false true e f g h = inr (inr (sym (eqb-true c s g)))
    by false false false e f g h = cc

none_of_three : (a b c s : ℕ) → has (a ∷ b ∷ c ∷ []) s ≡ false → (eqb s a ≡ false) × (eqb s b ≡ false) × (eqb s c ≡ false)
none_of_three a b c s h = by (eqb a s) (eqb b s) (eqb c s) refl refl refl h
  where
    turn : (a : ℕ) → eqb a s ≡ false → eqb s a ≡ false
    turn a e = ne_eqb s a (λ f. let g = eq-eqb a s (sym f) in cc (e, g))

    by : (x y z : Bool) → eqb a s ≡ x → eqb b s ≡ y → eqb c s ≡ z → (if x then true else if y then true else if z then true else false) ≡ false → (eqb s a ≡ false) × (eqb s b ≡ false) × (eqb s c ≡ false)
    by true y z e f g h = cc
    by false true z e f g h = cc
    by false false true e f g h = cc
    by false false false e f g h = (turn a e, turn b f, turn c g)

pub is_opener : (k : Spelled) (s : ℕ) → s ≡ sort k → has (left_parenthesis ∷ left_bracket ∷ left_brace ∷ []) s ≡ true → (m : Bracket_kind) × (bracket_of k ≡ Opens m) × (suc s ≡ closer m)
unfolding bracket_of
is_opener k s e h = by (one_of_three 0 2 4 s h)
  where
    by : (s ≡ 0) ⊎ ((s ≡ 2) ⊎ (s ≡ 4)) → (m : Bracket_kind) × (bracket_of k ≡ Opens m) × (suc s ≡ closer m)
    by (inl f) = let g : sort k ≡ 0 = sym e ∙ f in (Round, rw g refl, ap suc f)
    by (inr (inl f)) = let g : sort k ≡ 2 = sym e ∙ f in (Square, rw g refl, ap suc f)
    by (inr (inr f)) = let g : sort k ≡ 4 = sym e ∙ f in (Curly, rw g refl, ap suc f)

pub is_closer : (k : Spelled) (s : ℕ) → s ≡ sort k → has (right_parenthesis ∷ right_bracket ∷ right_brace ∷ []) s ≡ true → (m : Bracket_kind) × (bracket_of k ≡ Closes m) × (s ≡ closer m)
unfolding bracket_of
is_closer k s e h = by (one_of_three 1 3 5 s h)
  where
    by : (s ≡ 1) ⊎ ((s ≡ 3) ⊎ (s ≡ 5)) → (m : Bracket_kind) × (bracket_of k ≡ Closes m) × (s ≡ closer m)
    by (inl f) = let g : sort k ≡ 1 = sym e ∙ f in (Round, rw g refl, f)
    by (inr (inl f)) = let g : sort k ≡ 3 = sym e ∙ f in (Square, rw g refl, f)
    by (inr (inr f)) = let g : sort k ≡ 5 = sym e ∙ f in (Curly, rw g refl, f)

pub is_plain : (k : Spelled) (s : ℕ) → s ≡ sort k → has (left_parenthesis ∷ left_bracket ∷ left_brace ∷ []) s ≡ false → has (right_parenthesis ∷ right_bracket ∷ right_brace ∷ []) s ≡ false → bracket_of k ≡ Plain
unfolding bracket_of
is_plain k s e h i =
    let (a, b, c) = none_of_three 0 2 4 (sort k) (subst (λ s. has (0 ∷ 2 ∷ 4 ∷ []) s ≡ false) e h) in
    let (x, y, z) = none_of_three 1 3 5 (sort k) (subst (λ s. has (1 ∷ 3 ∷ 5 ∷ []) s ≡ false) e i) in
    rw (a, x, b, y, c, z) refl

-- one token, from what is told of it
pub token_done : (passes : Spelled → Bool) (ts : List Spelled) (k : Spelled) (rest : List Spelled) → read_token passes ts ≡ Done k rest → (ts ≡ k ∷ rest) × (passes k ≡ true)
token_done passes [] k rest e = cc
token_done passes (j ∷ js) k rest e = by (passes j) refl e
  where
    by : (b : Bool) → passes j ≡ b → (if b then Done j js else Stopped (j ∷ js)) ≡ Done k rest → (j ∷ js ≡ k ∷ rest) × (passes k ≡ true)
    by true f e = let g : j ≡ k = cc e in let h : js ≡ rest = cc e in (cc (g, h), subst (λ k. passes k ≡ true) g f)
    by false f e = cc

-- a group begins with one token, and it is read up to where that stops
group_stops : (ts rest : List Spelled) → read_token (is sort (left_parenthesis ∷ [])) ts ≡ Stopped rest → read_group same_bracket bracket_of Round ts ≡ Stopped rest
group_stops [] rest e = let g : [] ≡ rest = cc e in ap Stopped g
group_stops (k ∷ ks) rest e = by (is sort (left_parenthesis ∷ []) k) refl e
  where
    other : is sort (left_parenthesis ∷ []) k ≡ false → (b : Bracket Bracket_kind) → bracket_of k ≡ b → opens same_bracket Round b ≡ false
    other f (Opens Round) g = let h = opens_first k g in cc (f, h)
    other f (Opens Square) g = refl
    other f (Opens Curly) g = refl
    other f (Closes m) g = refl
    other f Plain g = refl

    by : (b : Bool) → is sort (left_parenthesis ∷ []) k ≡ b → (if b then Done k ks else Stopped (k ∷ ks)) ≡ Stopped rest → read_group same_bracket bracket_of Round (k ∷ ks) ≡ Stopped rest
    by true f e = cc e
    by false f e = let o = other f (bracket_of k) refl in let g : k ∷ ks ≡ rest = cc e in rw o (ap Stopped g)

-- what was taken of a statement that is skipped
pub record Taken (bytes : List ℕ) (tokens : List Token) (start at : ℕ) (first : Spelled) (stack : List ℕ) (all : List Lexeme) (last : Span) : Type 0 where
  pub ks : List Spelled
  pub kinds : List Bracket_kind
  pub stack_is : stack ≡ closers kinds
  pub all_is : all ≡ map lexeme (first ∷ ks)
  pub last_is : last ≡ (last_of first ks).span
  pub found : read_skip (behind bytes tokens start) ≡ found_as (λ x. (first, ks ++ x)) (read_closing same_bracket bracket_of kinds (behind bytes tokens at))

-- where the first token is none that is skipped, or the second opens no group
pub first_stops : (ts rest : List Spelled) → read_token (is sort (contract_name ∷ [])) ts ≡ Stopped rest → found_as skip_view (read_skip ts) ≡ Stopped rest
first_stops ts rest e = rw e refl

pub second_stops : (ts us rest : List Spelled) (k : Spelled) → read_token (is sort (contract_name ∷ [])) ts ≡ Done k us → read_token (is sort (left_parenthesis ∷ [])) us ≡ Stopped rest
    → found_as skip_view (read_skip ts) ≡ Stopped rest
second_stops ts us rest k e f = let g = group_stops us rest f in rw (e, g) refl

as_same : {K X Y Z : Type 0} (f : Y → Z) (g : X → Y) (h : X → Z) → ((x : X) → f (g x) ≡ h x) → (r : Found K X) → found_as f (found_as g r) ≡ found_as h r
as_same f g h s (Done x rest) = ap (λ y. Done y rest) (s x)
as_same f g h s (Stopped rest) = refl

-- two tokens
pub taken_start : (bytes : List ℕ) (tokens : List Token) (start second next : ℕ) (k j : Spelled) (stack : List ℕ) (all : List Lexeme)
    → read_token (is sort (contract_name ∷ [])) (behind bytes tokens start) ≡ Done k (behind bytes tokens second)
    → read_token (is sort (left_parenthesis ∷ [])) (behind bytes tokens second) ≡ Done j (behind bytes tokens next)
    → stack ≡ 1 ∷ [] → all ≡ lexeme k ∷ lexeme j ∷ [] → Taken bytes tokens start next k stack all j.span
taken_start bytes tokens start second next k j stack all e f o a =
    let (b, p) = token_done (is sort (left_parenthesis ∷ [])) (behind bytes tokens second) j (behind bytes tokens next) f in
    let g : read_group same_bracket bracket_of Round (behind bytes tokens second) ≡ found_as (λ x. j ∷ x) (read_closing same_bracket bracket_of (Round ∷ []) (behind bytes tokens next)) =
    ap (read_group same_bracket bracket_of Round) b ∙ step_group same_bracket bracket_of same_refl Round j (behind bytes tokens next) (first_opens j p) in
    record {
      ks = j ∷ [];
      kinds = Round ∷ [];
      stack_is = o;
      all_is = a;
      last_is = refl;
      found = ap (λ (r : Found Spelled Spelled). found_then {Y = Spelled × List Spelled} r (λ x rest. found_then {Y = Spelled × List Spelled} (read_group same_bracket bracket_of Round rest) (λ y left. Done (x, y) left))) e ∙ (ap (λ (r : Found Spelled (List Spelled)). found_then {Y = Spelled × List Spelled} r (λ y left. Done (k, y) left)) g ∙ joined (read_closing same_bracket bracket_of (Round ∷ []) (behind bytes tokens next)));
    }
  where
    joined : (r : Found Spelled (List Spelled)) → found_then {Y = Spelled × List Spelled} (found_as (λ x. j ∷ x) r) (λ y left. Done (k, y) left) ≡ found_as (λ x. (k, (j ∷ []) ++ x)) r
    joined (Done x rest) = refl
    joined (Stopped rest) = refl

module _ (bytes : List ℕ) (tokens : List Token) (start at : ℕ) (first : Spelled) (stack : List ℕ) (all : List Lexeme) (last : Span) where
  last_more : (k : Spelled) (ks : List Spelled) (j : Spelled) → last_of k (ks ++ j ∷ []) ≡ j
  last_more k [] j = refl
  last_more k (i ∷ ks) j = last_more i ks j

  -- one token more
  taken_step : (t : Taken bytes tokens start at first stack all last) (k : Spelled) (kinds : List Bracket_kind) (next : ℕ) (stack_after : List ℕ) (all_after : List Lexeme)
      → read_closing same_bracket bracket_of t.kinds (behind bytes tokens at) ≡ found_as (λ x. k ∷ x) (read_closing same_bracket bracket_of kinds (behind bytes tokens next))
      → stack_after ≡ closers kinds → all_after ≡ all ++ lexeme k ∷ [] → Taken bytes tokens start next first stack_after all_after k.span
  taken_step t k kinds next stack_after all_after e o a = record {
    ks = t.ks ++ k ∷ [];
    kinds = kinds;
    stack_is = o;
    all_is = a ∙ (ap (λ x. x ++ lexeme k ∷ []) t.all_is ∙ sym (map-append lexeme (first ∷ t.ks) (k ∷ [])));
    last_is = sym (ap (λ (j : Spelled). j.span) (last_more first t.ks k));
    found = t.found ∙ (ap (found_as (λ x. (first, t.ks ++ x))) e ∙ as_same (λ x. (first, t.ks ++ x)) (λ x. k ∷ x) (λ x. (first, (t.ks ++ k ∷ []) ++ x)) (λ x. ap (λ z. (first, z)) (sym (append_assoc t.ks (k ∷ []) x))) (read_closing same_bracket bracket_of kinds (behind bytes tokens next)));
  }

  -- all is closed
  pub taken_end : Taken bytes tokens start at first stack all last → stack ≡ [] → (span : Span) → span ≡ join first.span last
      → found_as skip_view (read_skip (behind bytes tokens start)) ≡ Done (roll-Stmt (record { kind = stmt_kind.Skip all; span = span }), 1) (behind bytes tokens at)
  unfolding stmt
  taken_end t e span span_is = by t.kinds t.stack_is t.found
    where
      by : (kinds : List Bracket_kind) → stack ≡ closers kinds → read_skip (behind bytes tokens start) ≡ found_as (λ x. (first, t.ks ++ x)) (read_closing same_bracket bracket_of kinds (behind bytes tokens at))
          → found_as skip_view (read_skip (behind bytes tokens start)) ≡ Done (roll-Stmt (record { kind = stmt_kind.Skip all; span = span }), 1) (behind bytes tokens at)
      by [] o f = ap (found_as skip_view) f ∙ let n = append-nil t.ks in rw (n, span_is, t.all_is, t.last_is) refl
      by (n ∷ ns) o f = absurd (some (closers ns) (closer n) (sym o ∙ e))

  -- the next token opens a bracket, closes the innermost, or does neither
  module _ (t : Taken bytes tokens start at first stack all last) (more : stack ≡ [] → ⊥) (token : Token) (lt : at < length tokens) (token_is : token ≡ get_or tokens at token) (next : ℕ) (next_is : next ≡ suc at) (s : ℕ) (s_is : s ≡ sort (spelled bytes token)) (all_after : List Lexeme) (all_after_is : all_after ≡ all ++ lexeme (spelled bytes token) ∷ []) where
    k : Spelled
    k = spelled bytes token

    rest : behind bytes tokens at ≡ k ∷ behind bytes tokens next
    unfolding k
    rest = behind_more bytes tokens at token lt token_is ∙ ap (λ n. k ∷ behind bytes tokens n) (sym next_is)

    first_kind : (n : Bracket_kind) × (ns : List Bracket_kind) × (t.kinds ≡ n ∷ ns)
    first_kind = by t.kinds refl t.stack_is
      where
        by : (kinds : List Bracket_kind) → t.kinds ≡ kinds → stack ≡ closers kinds → (n : Bracket_kind) × (ns : List Bracket_kind) × (t.kinds ≡ n ∷ ns)
        by [] e f = absurd (more f)
        by (n ∷ ns) e f = (n, ns, e)

    pub taken_opens : (stack_after : List ℕ) → has (left_parenthesis ∷ left_bracket ∷ left_brace ∷ []) s ≡ true → stack_after ≡ stack ++ suc s ∷ [] → Taken bytes tokens start next first stack_after all_after token.span
    unfolding k spelled
    taken_opens stack_after h o =
        let (n, ns, e) = first_kind in
        let (m, b, c) = is_opener k s s_is h in
        taken_step t k (m ∷ n ∷ ns) next stack_after all_after
        (ap (λ x. read_closing same_bracket bracket_of x (behind bytes tokens at)) e ∙ (ap (read_closing same_bracket bracket_of (n ∷ ns)) rest ∙ step_opens same_bracket bracket_of k (behind bytes tokens next) n ns m b))
        (o ∙ (ap (λ x. x ++ suc s ∷ []) (t.stack_is ∙ ap closers e) ∙ ap (λ x. closers (n ∷ ns) ++ x ∷ []) c))
        all_after_is

    pub taken_plain : (stack_after : List ℕ) → stack_after ≡ stack → has (left_parenthesis ∷ left_bracket ∷ left_brace ∷ []) s ≡ false → has (right_parenthesis ∷ right_bracket ∷ right_brace ∷ []) s ≡ false → Taken bytes tokens start next first stack_after all_after token.span
    unfolding k spelled
    taken_plain stack_after o h i =
        let (n, ns, e) = first_kind in
        let b = is_plain k s s_is h i in
        taken_step t k (n ∷ ns) next stack_after all_after
        (ap (λ x. read_closing same_bracket bracket_of x (behind bytes tokens at)) e ∙ (ap (read_closing same_bracket bracket_of (n ∷ ns)) rest ∙ step_plain same_bracket bracket_of k (behind bytes tokens next) n ns b))
        (o ∙ (t.stack_is ∙ ap closers e))
        all_after_is

    pub taken_closes : (stack_after : List ℕ) (wanted : ℕ) → has (right_parenthesis ∷ right_bracket ∷ right_brace ∷ []) s ≡ true → stack ≡ stack_after ++ wanted ∷ [] → wanted ≡ s → Taken bytes tokens start next first stack_after all_after token.span
    unfolding k spelled
    taken_closes stack_after wanted h o w =
        let (n, ns, e) = first_kind in
        let (m, b, c) = is_closer k s s_is h in
        let (p, q) = same_from_push stack_after (closers ns) wanted (closer n) (sym o ∙ (t.stack_is ∙ ap closers e)) in
        let same : m ≡ n = closer_is m n (sym c ∙ (sym w ∙ q)) in
        taken_step t k ns next stack_after all_after
        (ap (λ x. read_closing same_bracket bracket_of x (behind bytes tokens at)) e ∙ (ap (read_closing same_bracket bracket_of (n ∷ ns)) rest ∙ step_closes same_bracket bracket_of same_refl k (behind bytes tokens next) n ns (b ∙ ap Closes same)))
        p
        all_after_is

    pub taken_wrong : (stack_after : List ℕ) (wanted : ℕ) → has (right_parenthesis ∷ right_bracket ∷ right_brace ∷ []) s ≡ true → stack ≡ stack_after ++ wanted ∷ [] → (wanted ≡ s → ⊥)
        → found_as skip_view (read_skip (behind bytes tokens start)) ≡ Stopped (behind bytes tokens at)
    unfolding k
    taken_wrong stack_after wanted h o w =
        let (n, ns, e) = first_kind in
        let (m, b, c) = is_closer k s s_is h in
        let (p, q) = same_from_push stack_after (closers ns) wanted (closer n) (sym o ∙ (t.stack_is ∙ ap closers e)) in
        let other : same_bracket m n ≡ false = not_same m n (λ f. w (q ∙ (ap closer (sym f) ∙ sym c))) in
        let stop : read_closing same_bracket bracket_of t.kinds (behind bytes tokens at) ≡ Stopped (behind bytes tokens at) =
        ap (λ x. read_closing same_bracket bracket_of x (behind bytes tokens at)) e ∙ (ap (read_closing same_bracket bracket_of (n ∷ ns)) rest ∙ (step_wrong same_bracket bracket_of k (behind bytes tokens next) n ns m b other ∙ ap Stopped (sym rest))) in
        ap (found_as skip_view) (t.found ∙ ap (found_as (λ x. (first, t.ks ++ x))) stop)

  -- no token is left
  pub taken_none : Taken bytes tokens start at first stack all last → (stack ≡ [] → ⊥) → length tokens ≤ at → found_as skip_view (read_skip (behind bytes tokens start)) ≡ Stopped (behind bytes tokens at)
  taken_none t more le = by t.kinds t.stack_is t.found
    where
      by : (kinds : List Bracket_kind) → stack ≡ closers kinds → read_skip (behind bytes tokens start) ≡ found_as (λ x. (first, t.ks ++ x)) (read_closing same_bracket bracket_of kinds (behind bytes tokens at))
          → found_as skip_view (read_skip (behind bytes tokens start)) ≡ Stopped (behind bytes tokens at)
      by [] o f = absurd (more o)
      by (n ∷ ns) o f =
          let e = behind_end bytes tokens at le in
          ap (found_as skip_view) (f ∙ ap (found_as (λ x. (first, t.ks ++ x))) (ap (read_closing same_bracket bracket_of (n ∷ ns)) e ∙ ap Stopped (sym e)))

-- a text
pub text_skipped : (bytes : List ℕ) (tokens : List Token) (at next : ℕ) (first : Token) (all : List Lexeme)
    → read_token (is sort (prefixed_l ∷ [])) (behind bytes tokens at) ≡ Done (spelled bytes first) (behind bytes tokens (suc at)) → all ≡ lexeme (spelled bytes first) ∷ [] → next ≡ suc at
    → found_as (λ k. skip_from k []) (read_token (is sort (prefixed_l ∷ [])) (behind bytes tokens at)) ≡ Done (roll-Stmt (record { kind = stmt_kind.Skip all; span = first.span }), 1) (behind bytes tokens next)
unfolding spelled stmt
text_skipped bytes tokens at next first all h e n = rw (e, n) (ap (found_as (λ k. skip_from k [])) h)

-- what a test of an empty list tells
pub emptied : {X : Type 0} (b : Bool) (xs : List X) → IsTrue b ↔ (xs ≡ []) → b ≡ true → xs ≡ []
emptied b xs h e = search rules

pub filled : {X : Type 0} (b : Bool) (xs : List X) → IsTrue b ↔ (xs ≡ []) → b ≡ false → xs ≡ [] → ⊥
filled b xs h e f = search rules

-- two lexemes, one by one
pub two_of : {X : Type 0} (xs ys zs : List X) (a b c d : X) → xs ≡ [] → ys ≡ xs ++ a ∷ [] → zs ≡ ys ++ b ∷ [] → a ≡ c → b ≡ d → zs ≡ c ∷ d ∷ []
two_of xs ys zs a b c d e f g h i = rw (g, f, e, h, i) refl

pub more_of : {X : Type 0} (xs ys : List X) (a b : X) → ys ≡ xs ++ a ∷ [] → a ≡ b → ys ≡ xs ++ b ∷ []
more_of xs ys a b e f = e ∙ ap (λ x. xs ++ x ∷ []) f
