-- What is told of a whole follows from what is told of its parts: what they find, and their faults.
use Rattle.std.proofs.Common.{◌≡◌, ℕ, suc, ◌+◌, ◌<◌, ◌≤◌, List, [], ◌∷◌, ◌++◌, length, refl, sym, ap, ◌∙◌, subst, inl, inr, ◌⊎◌, Bool, true, false, if◌then◌else◌, true≢false, arith, length-append}
use Rattle.std.specs.Prelude.{Option, None, Some, min, IfOk}
use Rattle.std.specs.declared.result.Result.{Result}
use Rattle.std.specs.declared.result.Result.TheVariants.{Ok, Err}
use Rattle.std.specs.Result.{IsErrAnd}
use Rattle.std.proofs.lemmas.Result.{err_from_is_err_and}
use Rattle.std.proofs.lemmas.List.{append-nil, append_cancel_right, drop_min}
use Rattle.sl_text.specs.declared.place.Span.{Span}
use Rattle.sl_text.specs.declared.token.Token.{Token as TokenOf}
use Rattle.sl_text.specs.declared.fault.Fault.{Fault}
use Rattle.sl_text.specs.declared.fault.Fault.TheVariants as fault
use Rattle.sl_grammar.specs.Phrase.{Begins, Found, Done, Stopped, IsFront, IsRead, left_of, read_both, read_token}
use Rattle.sl_grammar.specs.Law.{found_as, read_then}
use Rattle.sl_grammar.specs.Many.{read_list}
use Rattle.sl_grammar.specs.Steps.{read_all_steps}
use Rattle.sl_grammar.specs.Grammar.{Form, Token, Nothing, Ref, Then, Either, Room, Many, Chain, Val, is, has, disjoint, sets_of, chain_room, step_on}
use Rattle.sl_grammar.proofs.Grammar.{disjoint_sound}
use Rattle.sl_grammar.proofs.Growing.{found_as_as}
use Rattle.sl_grammar.proofs.Rules.{raise}
use Rattle.sl_grammar.proofs.Both.{Cut, cut}
use Rattle.sl_grammar.proofs.Then.{front_of, one_more}
use Rattle.sl_grammar.proofs.Unique.{same_read}
use Rattle.sl_tree.specs.Sorts.{Spelled, sort}
use Rattle.sl_tree.specs.WellShaped.{cover, IsType, IsBlock}
use Rattle.sl_tree.specs.Declarations.{Limit, Nested}
use Rattle.sl_tree.specs.declared.tree.TypeTerm.{TypeTerm}
use Rattle.sl_tree.specs.declared.tree.Expr.{Expr}
use Rattle.sl_tree.specs.declared.tree.Stmt.{Stmt}
use Rattle.sl_parse_expr.specs.Grammar.{after_kinds}
use Rattle.sl_parse_expr.specs.Told.{behind, head_sort}
use Rattle.sl_parse_expr.specs.Answers.{Phrase, AnyExpr, AnyDepth, Within, Reaches, GoesTooDeep, IsTooDeep, IsWrong, Answers, place, rule}
use Rattle.sl_parse_expr.proofs.Telling.{as_done, as_stopped, done_as, stopped_as, both_go, both_first, both_second, both_done, either_left, either_right, room_left, room_right, room_shut, token_stops}
use Rattle.sl_parse_expr.proofs.Answering.{behind_min}
use Rattle.sl_parse_expr.proofs.Phrases.{type_goes, expr_goes, block_goes}
use Rattle.sl_parse.specs.Names.{Name, Type_term, Expression, Block, rule_of}
use Rattle.sl_parse.specs.Values.{T_of, tree_of, whole, total, span_in, value_of}
use Rattle.sl_parse.specs.Grammar.{Bound, Limited, Unlimited, limit_of, sets_at, own_at, room, tree, spells_tree, spells, read}
use Rattle.sl_parse.specs.Told.{Family, bare, found_tree, reads, IsDone, Held, Passed, IsWrongAt, IsDeepAt, Faults, Told, ToldTwo}
use Rattle.sl_parse.proofs.Laws.{Fine, law, reads_tree, rule_read, form_law, form_shape, wider}
use Rattle.sl_parse.proofs.Spans.{Said, spanned, total_whole}

-- a reader leaves no more than it was given
pub keeps_read : {X : Type 0} (l : X → List Spelled → Type 0) (ts : List Spelled) (f : Found Spelled X) → IsRead l ts f → length (left_of f) ≤ length ts
keeps_read l ts (Done x rest) (used, e, front, w) = omega (arith, ap length e, length-append used rest)
keeps_read l ts (Stopped rest) (used, e, front, none) = omega (arith, ap length e, length-append used rest)

-- and takes nothing where no word begins with the first token
pub stays_read : {X : Type 0} (l : X → List Spelled → Type 0) (k : Spelled) (more : List Spelled) (f : Found Spelled X) → (Begins l (k ∷ []) → ⊥) → IsRead l (k ∷ more) f → left_of f ≡ k ∷ more
stays_read {X} l k more f never r = by f r
  where
    go : (used rest : List Spelled) → k ∷ more ≡ used ++ rest → Begins l used → rest ≡ k ∷ more
    go [] rest e b = sym e
    go (j ∷ used) rest e b = let same : j ≡ k = cc in absurd (never (subst (λ z. Begins l (z ∷ [])) same (front_of l (j ∷ []) used b)))

    by : (f : Found Spelled X) → IsRead l (k ∷ more) f → left_of f ≡ k ∷ more
    by (Done x rest) (used, e, front, w) = go used rest e front.begins
    by (Stopped rest) (used, e, front, none) = go used rest e front.begins

-- and goes as far as some word does
pub passes_read : {X : Type 0} (l : X → List Spelled → Type 0) (a b : List Spelled) (f : Found Spelled X) → Begins l a → IsRead l (a ++ b) f → length (left_of f) ≤ length b
passes_read {X} l a b f begins r = by f r
  where
    go : (used rest : List Spelled) → a ++ b ≡ used ++ rest → IsFront l used rest → length rest ≤ length b
    go used rest e front = test (cut a b used rest e)
      where
        test : Cut a b used rest → length rest ≤ length b
        test (inl (k, c, p, q)) = omega (arith, ap length q, length-append c rest)
        test (inr (inl p)) = omega (arith, ap length p.1)
        test (inr (inr (k, c, p, q))) = absurd (front.ends k (c ++ b) q (front_of l (used ++ k ∷ []) c (subst (Begins l) (p ∙ sym (one_more used k c)) begins)))

    by : (f : Found Spelled X) → IsRead l (a ++ b) f → length (left_of f) ≤ length b
    by (Done x rest) (used, e, front, w) = go used rest e front
    by (Stopped rest) (used, e, front, none) = go used rest e front

-- there is one longest front
same_front : {X : Type 0} (l : X → List Spelled → Type 0) (u r v s : List Spelled) → IsFront l u r → IsFront l v s → u ++ r ≡ v ++ s → (u ≡ v) × (r ≡ s)
same_front l u r v s f g e = by (cut u r v s e)
  where
    longer : (a b : List Spelled) (k : Spelled) (c : List Spelled) → b ≡ a ++ k ∷ c → Begins l b → Begins l (a ++ k ∷ [])
    longer a b k c p w = front_of l (a ++ k ∷ []) c (subst (Begins l) (p ∙ sym (one_more a k c)) w)

    by : Cut u r v s → (u ≡ v) × (r ≡ s)
    by (inl (k, c, p, q)) = absurd (f.ends k (c ++ s) q (longer u v k c p g.begins))
    by (inr (inl p)) = p
    by (inr (inr (k, c, p, q))) = absurd (g.ends k (c ++ r) q (longer v u k c p f.begins))

-- a reader that leaves no more than it was given, and takes nothing where a token comes that could go on after a type or an expression
pub record Quiet {X : Type 0} (q : Bound → List Spelled → Found Spelled X) : Type 0 where
  pub keeps : (b : Bound) (ts : List Spelled) → length (left_of (q b ts)) ≤ length ts
  pub refuses : (ts : List Spelled) → has after_kinds (head_sort ts) ≡ true → left_of (q Limited ts) ≡ ts

pub keeps_form : (b : Bound) (g : Form Name) → Fine g → (ts : List Spelled) → length (left_of (reads b g ts)) ≤ length ts
keeps_form b g fine ts = keeps_read (Said (limit_of b) g) ts (reads b g ts) ((form_law (suc (length ts)) b g fine).reads ts (omega arith))

-- each fine form whose first kinds are none of these is quiet
pub quiet : (g : Form Name) → Fine g → disjoint after_kinds (sets_of sets_at g).first ≡ true → Quiet (λ b. reads b g)
quiet g fine d = record { keeps = λ b ts. keeps_form b g fine ts; refuses = refuses }
  where
    refuses : (ts : List Spelled) → has after_kinds (head_sort ts) ≡ true → left_of (reads Limited g ts) ≡ ts
    refuses [] h = absurd cc
    refuses (k ∷ more) h =
        stays_read (Said (limit_of Limited) g) k more (reads Limited g (k ∷ more))
        (λ b. disjoint_sound after_kinds (sets_of sets_at g).first (sort k) d h ((form_shape Limited g fine).starts.only k b))
        ((form_law (suc (length (k ∷ more))) Limited g fine).reads (k ∷ more) (omega arith))

-- a token of other kinds
pub quiet_token : (ks : List ℕ) → disjoint after_kinds ks ≡ true → Quiet (λ b. read_token (is sort ks))
quiet_token ks d = record { keeps = λ b ts. keeps ts; refuses = refuses }
  where
    keeps : (ts : List Spelled) → length (left_of (read_token (is sort ks) ts)) ≤ length ts
    keeps [] = omega arith
    keeps (k ∷ ts) = by (has ks (sort k))
      where
        by : (c : Bool) → length (left_of (if c then Done k ts else Stopped (k ∷ ts))) ≤ length (k ∷ ts)
        by true = omega arith
        by false = omega arith

    apart : (j : ℕ) → has after_kinds j ≡ true → (c : Bool) → has ks j ≡ c → has ks j ≡ false
    apart j h true e = absurd (disjoint_sound after_kinds ks j d h e)
    apart j h false e = e

    refuses : (ts : List Spelled) → has after_kinds (head_sort ts) ≡ true → left_of (read_token (is sort ks) ts) ≡ ts
    refuses ts h = ap left_of (token_stops ks ts (apart (head_sort ts) h (has ks (head_sort ts)) refl))

left_as : {X Y : Type 0} (f : X → Y) (g : Found Spelled X) → left_of (found_as f g) ≡ left_of g
left_as f (Done x rest) = refl
left_as f (Stopped rest) = refl

held_left : {X : Type 0} (f : Found Spelled X) (ts : List Spelled) → left_of f ≡ ts → has after_kinds (head_sort ts) ≡ true → Held f ts
held_left (Done x rest) ts e a = (e, a)
held_left (Stopped rest) ts e a = e

left_held : {X : Type 0} (f : Found Spelled X) (ts : List Spelled) → Held f ts → left_of f ≡ ts
left_held (Done x rest) ts h = h.0
left_held (Stopped rest) ts h = h

-- where the first stops so does the second, and where the first finds something whole, the second goes on, but not where a token comes that
-- could go on after a type or an expression
pub record Follows {X Y : Type 0} (f : Family X) (g : Family Y) : Type 0 where
  pub stops : (b : Bound) (rest : List Spelled) → f b ≡ Stopped rest → g b ≡ Stopped rest
  pub stays : (x : X) (rest : List Spelled) → f Limited ≡ Done x rest → has after_kinds (head_sort rest) ≡ true → left_of (g Limited) ≡ rest
  pub goes : (x : X) (rest : List Spelled) → f Unlimited ≡ Done x rest → length (left_of (g Unlimited)) ≤ length rest

-- the first finds what the second does, or nothing
follows_same : {X Y : Type 0} (f : Family X) (g : Family Y) → ((b : Bound) (rest : List Spelled) → f b ≡ Stopped rest → g b ≡ Stopped rest)
    → ((b : Bound) (x : X) (rest : List Spelled) → f b ≡ Done x rest → left_of (g b) ≡ rest) → Follows f g
follows_same f g s d = record { stops = s; stays = λ x rest e a. d Limited x rest e; goes = λ x rest e. omega (arith, ap length (d Unlimited x rest e)) }

held_on : {X Y : Type 0} (f : Family X) (g : Family Y) → Follows f g → (ts : List Spelled) → Held (f Limited) ts → Held (g Limited) ts
held_on {X} f g w ts h = by (f Limited) refl h
  where
    by : (x : Found Spelled X) → f Limited ≡ x → Held x ts → Held (g Limited) ts
    by (Done x rest) e (same, a) =
        let a' : has after_kinds (head_sort rest) ≡ true = ap (λ z. has after_kinds (head_sort z)) same ∙ a in
        held_left (g Limited) ts (w.stays x rest e a' ∙ same) a
    by (Stopped rest) e same = subst (λ z. Held z ts) (sym (w.stops Limited rest e)) same

passed_on : {X Y : Type 0} (f : Family X) (g : Family Y) → Follows f g → (ts : List Spelled) → Passed (f Unlimited) ts → Passed (g Unlimited) ts
passed_on {X} f g w ts h = by (f Unlimited) refl h
  where
    by : (x : Found Spelled X) → f Unlimited ≡ x → Passed x ts → Passed (g Unlimited) ts
    by (Done x rest) e less = omega (arith, w.goes x rest e)
    by (Stopped rest) e less = omega (arith, ap (λ z. length (left_of z)) (w.stops Unlimited rest e))

-- a result whose tree is seen as something else, with the same index, or the same fault
abbrev pub seen_as : {X Y : Type 0} → (X → Y) → Result (X × ℕ) Fault → Result (Y × ℕ) Fault
seen_as view (Ok (x, next)) = Ok (view x, next)
seen_as view (Err e) = Err e

module _ (file : ℕ) (bytes : List ℕ) (tokens : List TokenOf) where
  pub fault_follows : {X Y : Type 0} (f : Family X) (g : Family Y) (e : Fault) → Follows f g → Faults file bytes tokens f e → Faults file bytes tokens g e
  fault_follows f g (fault.Broken broken) w (i, le, s, inl (r, h)) = (i, le, s, inl (r, λ b. w.stops b (behind bytes tokens i) (h b)))
  fault_follows f g (fault.Broken broken) w (i, le, s, inr (r, h, p)) =
      (i, le, s, inr (r, held_on f g w (behind bytes tokens i) h, passed_on f g w (behind bytes tokens i) p))
  fault_follows f g fault.Mem w h = tt

  -- where both languages find the same, a fault is where it stops
  pub fault_halts : {X Y : Type 0} (f : Family X) (g : Family Y) (e : Fault) → f Limited ≡ f Unlimited → ((b : Bound) (rest : List Spelled) → f b ≡ Stopped rest → g b ≡ Stopped rest)
      → Faults file bytes tokens f e → Faults file bytes tokens g e
  fault_halts f g (fault.Broken broken) same w (i, le, s, inl (r, h)) = (i, le, s, inl (r, λ b. w b (behind bytes tokens i) (h b)))
  fault_halts f g (fault.Broken broken) same w (i, le, s, inr (r, h, p)) =
      let e : left_of (f Unlimited) ≡ behind bytes tokens i = ap left_of (sym same) ∙ left_held (f Limited) (behind bytes tokens i) h in
      absurd (omega (arith, ap length e))
  fault_halts f g fault.Mem same w h = tt

  -- seen as something else, and back

  pub fault_same : {X : Type 0} (f g : Family X) (e : Fault) → ((b : Bound) → g b ≡ f b) → Faults file bytes tokens f e → Faults file bytes tokens g e
  fault_same f g e same h = fault_follows f g e (follows_same f g (λ b rest d. same b ∙ d) (λ b x rest d. ap left_of (same b ∙ d))) h

  pub fault_as : {X Y : Type 0} (view : X → Y) (f : Family X) (e : Fault) → Faults file bytes tokens f e → Faults file bytes tokens (λ b. found_as view (f b)) e
  fault_as view f e h =
      fault_follows f (λ b. found_as view (f b)) e
      (follows_same f (λ b. found_as view (f b)) (λ b rest d. stopped_as view (f b) rest d) (λ b x rest d. ap left_of (done_as view (f b) x rest d))) h

  pub fault_of : {X Y : Type 0} (view : X → Y) (f : Family X) (e : Fault) → Faults file bytes tokens (λ b. found_as view (f b)) e → Faults file bytes tokens f e
  fault_of view f e h =
      fault_follows (λ b. found_as view (f b)) f e
      (follows_same (λ b. found_as view (f b)) f (λ b rest d. as_stopped view (f b) rest d) (λ b x rest d. ap left_of (as_done view (f b) x rest d).1)) h

  -- one of two parts is at fault
  module _ {X Y : Type 0} (p : Bound → List Spelled → Found Spelled X) (q : Bound → List Spelled → Found Spelled Y) (ts : List Spelled) where
    abbrev pair : X → Y → X × Y
    pair x y = (x, y)

    pub fault_first : (e : Fault) → Quiet q → Faults file bytes tokens (λ b. p b ts) e → Faults file bytes tokens (λ b. read_both (p b) (q b) ts) e
    fault_first e w h =
        fault_follows (λ b. p b ts) (λ b. read_both (p b) (q b) ts) e
        (record {
          stops = λ b rest d. both_first (p b) (q b) ts rest d;
          stays = λ x rest d a. ap left_of (both_go (p Limited) (q Limited) ts x rest d) ∙ (left_as (pair x) (q Limited rest) ∙ w.refuses rest a);
          goes = λ x rest d.
              let same = ap left_of (both_go (p Unlimited) (q Unlimited) ts x rest d) ∙ left_as (pair x) (q Unlimited rest) in
              omega (arith, w.keeps Unlimited rest, ap length same);
        }) h

    -- the first, where both languages find the same, as they do of a token
    pub fault_alone : (e : Fault) → p Limited ts ≡ p Unlimited ts → Faults file bytes tokens (λ b. p b ts) e → Faults file bytes tokens (λ b. read_both (p b) (q b) ts) e
    fault_alone e same h = fault_halts (λ b. p b ts) (λ b. read_both (p b) (q b) ts) e same (λ b rest d. both_first (p b) (q b) ts rest d) h

    pub fault_second : (x : X) (rest : List Spelled) (e : Fault) → ((b : Bound) → p b ts ≡ Done x rest) → Faults file bytes tokens (λ b. q b rest) e → Faults file bytes tokens (λ b. read_both (p b) (q b) ts) e
    fault_second x rest e d h =
        fault_follows (λ b. q b rest) (λ b. read_both (p b) (q b) ts) e
        (follows_same (λ b. q b rest) (λ b. read_both (p b) (q b) ts)
        (λ b left c. both_second (p b) (q b) ts x rest left (d b) c)
        (λ b y left c. ap left_of (both_done (p b) (q b) ts x rest y left (d b) c))) h

  -- results

  pub told_same : {X : Type 0} (f g : Family X) (r : Result (X × ℕ) Fault) → ((b : Bound) → g b ≡ f b) → Told file bytes tokens f r → Told file bytes tokens g r
  told_same f g (Ok (x, next)) same h = λ b. same b ∙ h b
  told_same f g (Err e) same h = fault_same f g e same h

  -- the result of a `?`
  pub err_told : {X : Type 0} (f : Family X) (x : Fault) (r : Result (X × ℕ) Fault) → Faults file bytes tokens f x → IsErrAnd r (λ e. e ≡ x) → Told file bytes tokens f r
  err_told f x r h e = let p = err_from_is_err_and r e in subst (Told file bytes tokens f) (sym p.1) (subst (λ z. Faults file bytes tokens f z) (sym p.2) h)

  pub err_told_two : {X Y : Type 0} (f : Family (X × Y)) (x : Fault) (r : Result (X × Y × ℕ) Fault) → Faults file bytes tokens f x → IsErrAnd r (λ e. e ≡ x) → ToldTwo file bytes tokens f r
  err_told_two f x r h e = let p = err_from_is_err_and r e in subst (ToldTwo file bytes tokens f) (sym p.1) (subst (λ z. Faults file bytes tokens f z) (sym p.2) h)

-- how forms are read

pub then_reads : (b : Bound) (p q : Form Name) (ts : List Spelled) → reads b (Then p q) ts ≡ read_both (reads b p) (reads b q) ts
unfolding reads
then_reads b p q ts = by (sets_of sets_at p).blank
  where
    by : (c : Bool) → read_both (reads b p) (if c then reads b q else reads b q) ts ≡ read_both (reads b p) (reads b q) ts
    by true = refl
    by false = refl

pub left_reads : (b : Bound) (p q : Form Name) (ts : List Spelled) → has (sets_of sets_at p).first 99 ≡ false → has (sets_of sets_at p).first (head_sort ts) ≡ true → reads b (Either p q) ts ≡ found_as inl (reads b p ts)
unfolding reads
left_reads b p q ts n h = either_left (sets_of sets_at p).first (reads b p) (reads b q) ts n h

pub right_reads : (b : Bound) (p q : Form Name) (ts : List Spelled) → has (sets_of sets_at p).first (head_sort ts) ≡ false → reads b (Either p q) ts ≡ found_as inr (reads b q ts)
unfolding reads
right_reads b p q ts h = either_right (sets_of sets_at p).first (reads b p) (reads b q) ts h

-- the same, where there may be no room for the first
pub room_left_reads : (b : Bound) (c : Bool) (p q : Form Name) (ts : List Spelled) → c ≡ true → has (sets_of sets_at p).first 99 ≡ false → has (sets_of sets_at p).first (head_sort ts) ≡ true
    → reads b (Room c p q) ts ≡ found_as inl (reads b p ts)
unfolding reads
room_left_reads b c p q ts e n h = room_left (sets_of sets_at p).first (reads b p) (reads b q) c ts e n h

pub room_right_reads : (b : Bound) (c : Bool) (p q : Form Name) (ts : List Spelled) → has (sets_of sets_at p).first (head_sort ts) ≡ false → reads b (Room c p q) ts ≡ found_as inr (reads b q ts)
unfolding reads
room_right_reads b c p q ts h = room_right (sets_of sets_at p).first (reads b p) (reads b q) c ts h

pub room_shut_reads : (b : Bound) (c : Bool) (p q : Form Name) (ts : List Spelled) → c ≡ false → reads b (Room c p q) ts ≡ found_as inr (reads b q ts)
unfolding reads
room_shut_reads b c p q ts e = room_shut (sets_of sets_at p).first (reads b p) (reads b q) c ts e

pub token_reads : (b : Bound) (ks : List ℕ) (ts : List Spelled) → reads b (Token ks) ts ≡ read_token (is sort ks) ts
unfolding reads
token_reads b ks ts = refl

pub nothing_reads : (b : Bound) (ts : List Spelled) → reads b Nothing ts ≡ Done tt ts
unfolding reads
nothing_reads b ts = refl

pub ref_reads : (b : Bound) (n : Name) (ts : List Spelled) → reads b (Ref n) ts ≡ read b n ts
unfolding reads
ref_reads b n ts = refl

pub many_reads : (b : Bound) (p : Form Name) (ts : List Spelled) → reads b (Many p) ts ≡ read_list (is sort (sets_of sets_at p).first) (reads b p) ts
unfolding reads
many_reads b p ts = refl

pub chain_reads : (b : Bound) (c : Bool) (n m : Name) (ts : List Spelled)
    → reads b (Chain c n m) ts ≡ read_then (read b n) (λ y. read_all_steps (is sort (sets_at m).first) (read b m) (chain_room sort T_of room c n m) step_on (y, [])) ts
unfolding reads
chain_reads b c n m ts = refl

-- the same of what is seen as something else

pub then_view : {Y : Type 0} (b : Bound) (p q : Form Name) (view : Val sort T_of p × Val sort T_of q → Y) (ts : List Spelled) (x : Val sort T_of p) (rest : List Spelled) → reads b p ts ≡ Done x rest
    → found_as view (reads b (Then p q) ts) ≡ found_as (λ y. view (x, y)) (reads b q rest)
then_view b p q view ts x rest e =
    let pair : Val sort T_of q → Val sort T_of p × Val sort T_of q = λ y. (x, y) in
    ap (found_as view) (then_reads b p q ts ∙ both_go (reads b p) (reads b q) ts x rest e) ∙ found_as_as view pair (reads b q rest)

pub token_view : {Y : Type 0} (b : Bound) (ks : List ℕ) (q : Form Name) (view : Spelled × Val sort T_of q → Y) (ts : List Spelled) (k : Spelled) (rest : List Spelled) → read_token (is sort ks) ts ≡ Done k rest
    → found_as view (reads b (Then (Token ks) q) ts) ≡ found_as (λ y. view (k, y)) (reads b q rest)
token_view b ks q view ts k rest e = then_view b (Token ks) q view ts k rest (token_reads b ks ts ∙ e)

pub left_view : {Y : Type 0} (b : Bound) (p q : Form Name) (view : Val sort T_of p ⊎ Val sort T_of q → Y) (ts : List Spelled) → has (sets_of sets_at p).first 99 ≡ false → has (sets_of sets_at p).first (head_sort ts) ≡ true
    → found_as view (reads b (Either p q) ts) ≡ found_as (λ x. view (inl x)) (reads b p ts)
left_view b p q view ts n h = ap (found_as view) (left_reads b p q ts n h) ∙ found_as_as view inl (reads b p ts)

pub right_view : {Y : Type 0} (b : Bound) (p q : Form Name) (view : Val sort T_of p ⊎ Val sort T_of q → Y) (ts : List Spelled) → has (sets_of sets_at p).first (head_sort ts) ≡ false
    → found_as view (reads b (Either p q) ts) ≡ found_as (λ y. view (inr y)) (reads b q ts)
right_view b p q view ts h = ap (found_as view) (right_reads b p q ts h) ∙ found_as_as view inr (reads b q ts)

-- a name without its span, and by its rule

pub tree_reads : (b : Bound) (n : Name) (ts : List Spelled) → found_tree b n ts ≡ found_as bare (reads b (Ref n) ts)
unfolding found_tree reads
tree_reads b n ts = refl

-- the tree of what a rule reads
abbrev pub tree_in : (n : Name) → Val sort T_of (rule_of n) → tree_of n
tree_in n v = value_of n v (total (span_in (rule_of n) v))

pub tree_rule : (b : Bound) (n : Name) → own_at n ≡ false → (ts : List Spelled) → found_tree b n ts ≡ found_as (tree_in n) (reads b (rule_of n) ts)
unfolding found_tree
tree_rule b n o ts = ap (found_as bare) (sym (rule_read b n o ts)) ∙ found_as_as bare (tree n) (reads b (rule_of n) ts)

-- what was read is spelled by the tokens that were taken

pub said : (b : Bound) (g : Form Name) → Fine g → (v : Val sort T_of g) (ts rest : List Spelled) → reads b g ts ≡ Done v rest → (used : List Spelled) × (ts ≡ used ++ rest) × Said (limit_of b) g v used
said b g fine v ts rest e = by (subst (IsRead (Said (limit_of b) g) ts) e ((form_law (suc (length ts)) b g fine).reads ts (omega arith)))
  where
    by : IsRead (Said (limit_of b) g) ts (Done v rest) → (used : List Spelled) × (ts ≡ used ++ rest) × Said (limit_of b) g v used
    by (used, h, front, w) = (used, h, w)

-- its span is theirs
pub covered : (b : Bound) (g : Form Name) → Fine g → (v : Val sort T_of g) (ts rest : List Spelled) → reads b g ts ≡ Done v rest → (used : List Spelled) × (ts ≡ used ++ rest) × (span_in g v ≡ whole used)
covered b g fine v ts rest e = let w = said b g fine v ts rest e in (w.0, w.1, spanned (limit_of b) g v w.0 w.2)

-- and so is one that covers them
pub covered_by : (b : Bound) (g : Form Name) → Fine g → (v : Val sort T_of g) (ts rest : List Spelled) (span : Span) → reads b g ts ≡ Done v rest → ((used : List Spelled) → ts ≡ used ++ rest → span ≡ cover used)
    → total (span_in g v) ≡ span
covered_by b g fine v ts rest span e h = let w = covered b g fine v ts rest e in ap total w.2 ∙ (total_whole w.0 ∙ sym (h w.0 w.1))

-- both languages read the same, where both read something whole
same_done : (g : Form Name) → Fine g → (v w : Val sort T_of g) (ts rest : List Spelled) → reads Limited g ts ≡ Done v rest → reads Unlimited g ts ≡ Done w rest → w ≡ v
same_done g fine v w ts rest e d =
    let a = said Limited g fine v ts rest e in
    let c = said Unlimited g fine w ts rest d in
    let same : c.0 ≡ a.0 = append_cancel_right c.0 a.0 rest (sym c.1 ∙ a.1) in
    (form_law (suc (length a.0)) Unlimited g fine).one w v a.0 (omega arith) (subst (Said None g w) same c.2)
    (raise sort T_of room (spells (Some 64)) (spells None) wider g v a.0 a.2)

-- what is told of a view is the view of something
pub form_done : {Y : Type 0} (g : Form Name) (view : Val sort T_of g → Y) → Fine g → (ts : List Spelled) (y : Y) (rest : List Spelled) → IsDone (λ b. found_as view (reads b g ts)) y rest
    → (v : Val sort T_of g) × (view v ≡ y) × IsDone (λ b. reads b g ts) v rest
form_done g view fine ts y rest h =
    let v = as_done view (reads Limited g ts) y rest (h Limited) in
    let w = as_done view (reads Unlimited g ts) y rest (h Unlimited) in
    (v.0, v.2, by v.0 w.0 v.1 w.1)
  where
    by : (v w : Val sort T_of g) → reads Limited g ts ≡ Done v rest → reads Unlimited g ts ≡ Done w rest → (b : Bound) → reads b g ts ≡ Done v rest
    by v w e d Limited = e
    by v w e d Unlimited = d ∙ ap (λ x. Done x rest) (same_done g fine v w ts rest e d)

-- and a tree has a span
pub tree_done : (n : Name) (ts : List Spelled) (x : tree_of n) (rest : List Spelled) → IsDone (λ b. found_tree b n ts) x rest → (s : Option Span) × IsDone (λ b. reads b (Ref n) ts) (x, s) rest
tree_done n ts x rest h =
    let w = form_done (Ref n) bare refl ts x rest (λ b. sym (tree_reads b n ts) ∙ h b) in
    let same : w.0 ≡ (x, w.0.1) = ap (λ y. (y, w.0.1)) w.1 in
    (w.0.1, λ b. w.2 b ∙ ap (λ v. Done v rest) same)

-- the parts of a form, as both languages read them

pub done_then : (p q : Form Name) (ts : List Spelled) (x : Val sort T_of p) (rest : List Spelled) (y : Val sort T_of q) (left : List Spelled)
    → IsDone (λ b. reads b p ts) x rest → IsDone (λ b. reads b q rest) y left → IsDone (λ b. reads b (Then p q) ts) (x, y) left
done_then p q ts x rest y left d e = λ b. then_reads b p q ts ∙ both_done (reads b p) (reads b q) ts x rest y left (d b) (e b)

pub done_token : (ks : List ℕ) (ts : List Spelled) (k : Spelled) (rest : List Spelled) → read_token (is sort ks) ts ≡ Done k rest → IsDone (λ b. reads b (Token ks) ts) k rest
done_token ks ts k rest e = λ b. token_reads b ks ts ∙ e

pub done_left : (p q : Form Name) (ts : List Spelled) (x : Val sort T_of p) (rest : List Spelled) → has (sets_of sets_at p).first 99 ≡ false → has (sets_of sets_at p).first (head_sort ts) ≡ true
    → IsDone (λ b. reads b p ts) x rest → IsDone (λ b. reads b (Either p q) ts) (inl x) rest
done_left p q ts x rest n h d = λ b. left_reads b p q ts n h ∙ ap (found_as inl) (d b)

pub done_right : (p q : Form Name) (ts : List Spelled) (y : Val sort T_of q) (rest : List Spelled) → has (sets_of sets_at p).first (head_sort ts) ≡ false
    → IsDone (λ b. reads b q ts) y rest → IsDone (λ b. reads b (Either p q) ts) (inr y) rest
done_right p q ts y rest h d = λ b. right_reads b p q ts h ∙ ap (found_as inr) (d b)

-- a form, or nothing: nothing
pub done_none : (p : Form Name) (ts : List Spelled) → has (sets_of sets_at p).first (head_sort ts) ≡ false → IsDone (λ b. reads b (Either p Nothing) ts) (inr tt) ts
done_none p ts h = done_right p Nothing ts tt ts h (λ b. nothing_reads b ts)

pub done_rule : (n : Name) → own_at n ≡ false → (ts : List Spelled) (v : Val sort T_of (rule_of n)) (rest : List Spelled) → IsDone (λ b. reads b (rule_of n) ts) v rest → IsDone (λ b. found_tree b n ts) (tree_in n v) rest
done_rule n o ts v rest d = λ b. tree_rule b n o ts ∙ ap (found_as (tree_in n)) (d b)

module _ (file : ℕ) (bytes : List ℕ) (tokens : List TokenOf) where
  pub fault_then : (p q : Form Name) (ts : List Spelled) (e : Fault) → Fine q → disjoint after_kinds (sets_of sets_at q).first ≡ true
      → Faults file bytes tokens (λ b. reads b p ts) e → Faults file bytes tokens (λ b. reads b (Then p q) ts) e
  fault_then p q ts e fine d h =
      fault_same file bytes tokens (λ b. read_both (reads b p) (reads b q) ts) (λ b. reads b (Then p q) ts) e (λ b. then_reads b p q ts)
      (fault_first file bytes tokens (λ b. reads b p) (λ b. reads b q) ts e (quiet q fine d) h)

  -- where both languages find the same of the first
  pub fault_then_alone : (p q : Form Name) (ts : List Spelled) (e : Fault) → reads Limited p ts ≡ reads Unlimited p ts
      → Faults file bytes tokens (λ b. reads b p ts) e → Faults file bytes tokens (λ b. reads b (Then p q) ts) e
  fault_then_alone p q ts e same h =
      fault_same file bytes tokens (λ b. read_both (reads b p) (reads b q) ts) (λ b. reads b (Then p q) ts) e (λ b. then_reads b p q ts)
      (fault_alone file bytes tokens (λ b. reads b p) (λ b. reads b q) ts e same h)

  pub fault_then_second : (p q : Form Name) (ts : List Spelled) (x : Val sort T_of p) (rest : List Spelled) (e : Fault) → IsDone (λ b. reads b p ts) x rest
      → Faults file bytes tokens (λ b. reads b q rest) e → Faults file bytes tokens (λ b. reads b (Then p q) ts) e
  fault_then_second p q ts x rest e d h =
      fault_same file bytes tokens (λ b. read_both (reads b p) (reads b q) ts) (λ b. reads b (Then p q) ts) e (λ b. then_reads b p q ts)
      (fault_second file bytes tokens (λ b. reads b p) (λ b. reads b q) ts x rest e d h)

  -- a token, alone and with a form behind it
  pub fault_form_token : (ks : List ℕ) (ts : List Spelled) (e : Fault) → Faults file bytes tokens (λ b. read_token (is sort ks) ts) e → Faults file bytes tokens (λ b. reads b (Token ks) ts) e
  fault_form_token ks ts e h = fault_same file bytes tokens (λ b. read_token (is sort ks) ts) (λ b. reads b (Token ks) ts) e (λ b. token_reads b ks ts) h

  pub fault_then_token : (ks : List ℕ) (q : Form Name) (ts : List Spelled) (e : Fault) → Faults file bytes tokens (λ b. read_token (is sort ks) ts) e → Faults file bytes tokens (λ b. reads b (Then (Token ks) q) ts) e
  fault_then_token ks q ts e h = fault_then_alone (Token ks) q ts e (token_reads Limited ks ts ∙ sym (token_reads Unlimited ks ts)) (fault_form_token ks ts e h)

  pub fault_left : (p q : Form Name) (ts : List Spelled) (e : Fault) → has (sets_of sets_at p).first 99 ≡ false → has (sets_of sets_at p).first (head_sort ts) ≡ true
      → Faults file bytes tokens (λ b. reads b p ts) e → Faults file bytes tokens (λ b. reads b (Either p q) ts) e
  fault_left p q ts e n h f =
      fault_same file bytes tokens (λ b. found_as inl (reads b p ts)) (λ b. reads b (Either p q) ts) e
      (λ b. left_reads b p q ts n h) (fault_as file bytes tokens inl (λ b. reads b p ts) e f)

  pub fault_right : (p q : Form Name) (ts : List Spelled) (e : Fault) → has (sets_of sets_at p).first (head_sort ts) ≡ false
      → Faults file bytes tokens (λ b. reads b q ts) e → Faults file bytes tokens (λ b. reads b (Either p q) ts) e
  fault_right p q ts e h f =
      fault_same file bytes tokens (λ b. found_as inr (reads b q ts)) (λ b. reads b (Either p q) ts) e
      (λ b. right_reads b p q ts h) (fault_as file bytes tokens inr (λ b. reads b q ts) e f)

  -- what has a name
  pub fault_ref : (n : Name) (ts : List Spelled) (e : Fault) → Faults file bytes tokens (λ b. found_tree b n ts) e → Faults file bytes tokens (λ b. reads b (Ref n) ts) e
  fault_ref n ts e h =
      fault_of file bytes tokens bare (λ b. reads b (Ref n) ts) e
      (fault_same file bytes tokens (λ b. found_tree b n ts) (λ b. found_as bare (reads b (Ref n) ts)) e (λ b. sym (tree_reads b n ts)) h)

  pub fault_rule : (n : Name) → own_at n ≡ false → (ts : List Spelled) (e : Fault) → Faults file bytes tokens (λ b. reads b (rule_of n) ts) e → Faults file bytes tokens (λ b. found_tree b n ts) e
  fault_rule n o ts e h =
      fault_same file bytes tokens (λ b. found_as (tree_in n) (reads b (rule_of n) ts)) (λ b. found_tree b n ts) e (λ b. tree_rule b n o ts)
      (fault_as file bytes tokens (tree_in n) (λ b. reads b (rule_of n) ts) e h)

-- what spells the same reads the same
alike_read : {X : Type 0} (l m : X → List Spelled → Type 0) → ((x : X) (us : List Spelled) → l x us → m x us) → ((x : X) (us : List Spelled) → m x us → l x us)
    → (ts : List Spelled) (f : Found Spelled X) → IsRead l ts f → IsRead m ts f
alike_read {X} l m to back ts f r = by f r
  where
    front : (used rest : List Spelled) → IsFront l used rest → IsFront m used rest
    front used rest w = record {
      begins = (let b = w.begins in (b.0, b.1, to b.0 (used ++ b.1) b.2));
      ends = λ k more e b. w.ends k more e (b.0, b.1, back b.0 ((used ++ k ∷ []) ++ b.1) b.2);
    }

    by : (f : Found Spelled X) → IsRead l ts f → IsRead m ts f
    by (Done x rest) (used, e, w, s) = (used, e, front used rest w, to x used s)
    by (Stopped rest) (used, e, w, none) = (used, e, front used rest w, λ x s. none x (back x used s))

-- a name without phrases in it is read the same in both languages
pub same_ref : (n : Name) → ((v : T_of n) (us : List Spelled) → spells None n v us → spells (Some 64) n v us) → (ts : List Spelled) → reads Limited (Ref n) ts ≡ reads Unlimited (Ref n) ts
same_ref n back ts =
    ref_reads Limited n ts
    ∙ (same_read (spells None n) ts (law (suc (length ts)) Unlimited n).one (read Limited n ts) (read Unlimited n ts)
    (alike_read (spells (Some 64) n) (spells None n) (wider n) back ts (read Limited n ts) (reads_tree Limited n ts)) (reads_tree Unlimited n ts)
    ∙ sym (ref_reads Unlimited n ts))

-- the three phrases of sl_parse_expr
module _ (n : Name) (P : Phrase (tree_of n)) (to : (limit : Limit) (x : tree_of n) (ts : List Spelled) → Nested limit P x ts → spells_tree limit n x ts)
    (back : (limit : Limit) (x : tree_of n) (ts : List Spelled) → spells_tree limit n x ts → Nested limit P x ts) (solid : (sets_at n).blank ≡ false)
    (goes : (x : tree_of n) (a : List Spelled) (k : Spelled) → AnyDepth P x a → Begins (AnyDepth P) (a ++ k ∷ []) → has after_kinds (sort k) ≡ true) where
  any_of : (b : Bound) (v : T_of n) (ts : List Spelled) → spells (limit_of b) n v ts → AnyDepth P v.0 ts
  any_of b v ts w = let u = back (limit_of b) v.0 ts w.0 in (u.0, u.1)

  any_begins : (b : Bound) (ts : List Spelled) → Begins (spells (limit_of b) n) ts → Begins (AnyDepth P) ts
  any_begins b ts (v, more, w) = (v.0, more, any_of b v (ts ++ more) w)

  none_begins : (ts : List Spelled) → Begins (AnyDepth P) ts → Begins (spells None n) ts
  none_begins ts (x, more, (m, w)) = ((x, whole (ts ++ more)), more, (to None x (ts ++ more) (m, w, tt), refl))

  some_begins : (ts : List Spelled) → Begins (Within 64 P) ts → Begins (spells (Some 64) n) ts
  some_begins ts (x, more, w) = ((x, whole (ts ++ more)), more, (to (Some 64) x (ts ++ more) w, refl))

  begins_some : (ts : List Spelled) → Begins (spells (Some 64) n) ts → Begins (Within 64 P) ts
  begins_some ts (v, more, w) = (v.0, more, back (Some 64) v.0 (ts ++ more) w.0)

  found : (b : Bound) (ts : List Spelled) (f : Found Spelled (T_of n)) → IsRead (spells (limit_of b) n) ts f → read b n ts ≡ f
  found b ts f r = same_read (spells (limit_of b) n) ts (law (suc (length ts)) b n).one (read b n ts) f (reads_tree b n ts) r

  tree_found : (b : Bound) (ts : List Spelled) (f : Found Spelled (T_of n)) → IsRead (spells (limit_of b) n) ts f → found_tree b n ts ≡ found_as bare f
  unfolding found_tree
  tree_found b ts f r = ap (found_as bare) (found b ts f r)

  -- some phrase begins with what was reached
  nothing_begins : (b : Bound) → Begins (spells (limit_of b) n) []
  nothing_begins b = by (read b n []) (reads_tree b n [])
    where
      by : (f : Found Spelled (T_of n)) → IsRead (spells (limit_of b) n) [] f → Begins (spells (limit_of b) n) []
      by (Done v rest) (u, e, h, w) = front_of (spells (limit_of b) n) [] u h.begins
      by (Stopped rest) (u, e, h, w) = front_of (spells (limit_of b) n) [] u h.begins

  reached : (b : Bound) (used : List Spelled) → Reaches 64 P used → Begins (spells (limit_of b) n) used
  reached b used (inl e) = subst (Begins (spells (limit_of b) n)) (sym e) (nothing_begins b)
  reached Limited used (inr w) = some_begins used w
  reached Unlimited used (inr (x, more, (m, w, le))) = none_begins used (x, more, (m, w))

  -- a tree
  ok_found : (b : Bound) (x : tree_of n) (used rest ts : List Spelled) → ts ≡ used ++ rest → IsFront (AnyDepth P) used rest → Within 64 P x used → found_tree b n ts ≡ Done x rest
  ok_found b x used rest ts e front (m, w, le) =
      tree_found b ts (Done (x, whole used) rest) (used, e, longest, (tree_of_it b, refl))
    where
      tree_of_it : (b : Bound) → spells_tree (limit_of b) n x used
      tree_of_it Limited = to (Some 64) x used (m, w, le)
      tree_of_it Unlimited = to None x used (m, w, tt)

      longest : IsFront (spells (limit_of b) n) used rest
      longest = record {
        begins = ((x, whole used), [], (subst (λ z. spells_tree (limit_of b) n x z) (sym (append-nil used)) (tree_of_it b), ap whole (sym (append-nil used))));
        ends = λ k more h c. front.ends k more h (any_begins b (used ++ k ∷ []) c);
      }

  -- no phrase goes on
  wrong_found : (b : Bound) (used rest ts : List Spelled) → ts ≡ used ++ rest → Reaches 64 P used → IsFront (AnyDepth P) used rest → ((x : tree_of n) → ¬ AnyDepth P x used) → found_tree b n ts ≡ Stopped rest
  wrong_found b used rest ts e r front none =
      tree_found b ts (Stopped rest) (
        used,
        e,
        record { begins = reached b used r; ends = λ k more h c. front.ends k more h (any_begins b (used ++ k ∷ []) c) },
        λ v w. none v.0 (any_of b v used w),
      )

  -- phrases go on, and each is too deep

  deep_front : (used rest : List Spelled) → Reaches 64 P used → GoesTooDeep 64 P used rest → IsFront (spells (Some 64) n) used rest
  deep_front used rest r (k, more, e, b, none) = record { begins = reached Limited used r; ends = ends }
    where
      ends : (j : Spelled) (js : List Spelled) → rest ≡ j ∷ js → Begins (spells (Some 64) n) (used ++ j ∷ []) → ⊥
      ends j js h c = let same : j ≡ k = cc in none (begins_some (used ++ k ∷ []) (subst (λ z. Begins (spells (Some 64) n) (used ++ z ∷ [])) same c))

  deep_held : (used rest ts : List Spelled) → ts ≡ used ++ rest → Reaches 64 P used → GoesTooDeep 64 P used rest → Held (found_tree Limited n ts) rest
  unfolding found_tree
  deep_held used rest ts e r deep = by deep (read Limited n ts) (reads_tree Limited n ts)
    where
      front : IsFront (spells (Some 64) n) used rest
      front = deep_front used rest r deep

      by : GoesTooDeep 64 P used rest → (f : Found Spelled (T_of n)) → IsRead (spells (Some 64) n) ts f → Held (found_as bare f) rest
      by (k, more, h, b, none) (Done v left) (u, i, w, s) =
          let same = same_front (spells (Some 64) n) u left used rest w front (sym i ∙ e) in
          let any : AnyDepth P v.0 used = any_of Limited v used (subst (spells (Some 64) n v) same.0 s) in
          (same.1, ap (λ z. has after_kinds (head_sort z)) h ∙ goes v.0 used k any b)
      by (k, more, h, b, none) (Stopped left) (u, i, w, s) = (same_front (spells (Some 64) n) u left used rest w front (sym i ∙ e)).1

  deep_passed : (used rest ts : List Spelled) → ts ≡ used ++ rest → GoesTooDeep 64 P used rest → Passed (found_tree Unlimited n ts) rest
  unfolding found_tree
  deep_passed used rest ts e (k, more, h, b, none) =
      let same : ts ≡ (used ++ k ∷ []) ++ more = e ∙ (ap (λ z. used ++ z) h ∙ sym (one_more used k more)) in
      let found = subst (λ z. IsRead (spells None n) z (read Unlimited n ts)) same (reads_tree Unlimited n ts) in
      let le = passes_read (spells None n) (used ++ k ∷ []) more (read Unlimited n ts) (none_begins (used ++ k ∷ []) b) found in
      omega (arith, le, ap length (left_as bare (read Unlimited n ts)), ap length h)

  module _ (file : ℕ) (bytes : List ℕ) (tokens : List TokenOf) (at : ℕ) where
    abbrev Here : List Spelled
    Here = behind bytes tokens at

    phrase_told : (r : Result (tree_of n × ℕ) Fault) → Answers P file bytes tokens at 0 r → Told file bytes tokens (λ b. found_tree b n (behind bytes tokens at)) r
    phrase_told (Ok (x, next)) (le, (used, (e, count), (front, w))) = λ b. ok_found b x used (behind bytes tokens next) Here e front w
    phrase_told (Err (fault.Broken broken)) (i, used, (e, count), span, rest) =
        (min i (length tokens), omega arith, span ∙ ap (place file bytes) (sym (drop_min i tokens)), by rest)
      where
        ts : List Spelled
        ts = behind bytes tokens (min i (length tokens))

        last : behind bytes tokens i ≡ ts
        last = behind_min bytes tokens i

        held : Reaches 64 P used → GoesTooDeep 64 P used (behind bytes tokens i) → Held (found_tree Limited n Here) ts
        held r deep = subst (Held (found_tree Limited n Here)) last (deep_held used (behind bytes tokens i) Here e r deep)

        passed : GoesTooDeep 64 P used (behind bytes tokens i) → Passed (found_tree Unlimited n Here) ts
        passed deep = subst (Passed (found_tree Unlimited n Here)) last (deep_passed used (behind bytes tokens i) Here e deep)

        by : ((broken.rule ≡ rule 6) × IsTooDeep 64 P used (behind bytes tokens i)) ⊎ ((broken.rule ≡ rule 1) × IsWrong 64 P used (behind bytes tokens i))
            → IsWrongAt (λ b. found_tree b n Here) broken ts ⊎ IsDeepAt (λ b. found_tree b n Here) broken ts
        by (inl (number, (r, deep))) = inr (number, held r deep, passed deep)
        by (inr (number, (r, front, none))) = inl (number, λ b. wrong_found b used (behind bytes tokens i) Here e r front none ∙ ap Stopped last)
    phrase_told (Err fault.Mem) h = tt

    phrase_lies : (x : tree_of n) (next : ℕ) → Answers P file bytes tokens at 0 (Ok (x, next)) → (at < next) × (next ≤ length tokens)
    phrase_lies x next (le, (used, (e, count), (front, (m, w, less)))) = (some used count w, le)
      where
        some : (us : List Spelled) → at + length us ≡ next → P m x us → at < next
        some [] c u = absurd ((form_shape Unlimited (Ref n) refl).some solid (x, None) (to None x [] (m, u, tt), refl))
        some (k ∷ us) c u = omega arith

    phrase_bounds : (r : Result (tree_of n × ℕ) Fault) → Answers P file bytes tokens at 0 r → IfOk r (λ v. (at < v.1) × (v.1 ≤ length tokens))
    phrase_bounds (Ok (x, next)) h = phrase_lies x next h
    phrase_bounds (Err e) h = tt

module _ (file : ℕ) (bytes : List ℕ) (tokens : List TokenOf) (at : ℕ) where
  pub type_told : (r : Result (TypeTerm × ℕ) Fault) → Answers IsType file bytes tokens at 0 r → Told file bytes tokens (λ b. found_tree b Type_term (behind bytes tokens at)) r
  type_told r h = phrase_told Type_term IsType (λ limit x ts w. w) (λ limit x ts w. w) refl type_goes file bytes tokens at r h

  pub type_bounds : (r : Result (TypeTerm × ℕ) Fault) → Answers IsType file bytes tokens at 0 r → IfOk r (λ v. (at < v.1) × (v.1 ≤ length tokens))
  type_bounds r h = phrase_bounds Type_term IsType (λ limit x ts w. w) (λ limit x ts w. w) refl type_goes file bytes tokens at r h

  pub expr_told : (r : Result (Expr × ℕ) Fault) → Answers AnyExpr file bytes tokens at 0 r → Told file bytes tokens (λ b. found_tree b Expression (behind bytes tokens at)) r
  expr_told r h = phrase_told Expression AnyExpr (λ limit x ts w. w) (λ limit x ts w. w) refl expr_goes file bytes tokens at r h

  pub expr_bounds : (r : Result (Expr × ℕ) Fault) → Answers AnyExpr file bytes tokens at 0 r → IfOk r (λ v. (at < v.1) × (v.1 ≤ length tokens))
  expr_bounds r h = phrase_bounds Expression AnyExpr (λ limit x ts w. w) (λ limit x ts w. w) refl expr_goes file bytes tokens at r h

  -- nothing goes on after a block
  block_after : (x : List Stmt) (a : List Spelled) (k : Spelled) → AnyDepth IsBlock x a → Begins (AnyDepth IsBlock) (a ++ k ∷ []) → has after_kinds (sort k) ≡ true
  block_after x a k w b = absurd (true≢false (sym (block_goes x a k w b)))

  pub block_told : (r : Result (List Stmt × ℕ) Fault) → Answers IsBlock file bytes tokens at 0 r → Told file bytes tokens (λ b. found_tree b Block (behind bytes tokens at)) r
  block_told r h = phrase_told Block IsBlock (λ limit x ts w. w) (λ limit x ts w. w) refl block_after file bytes tokens at r h
