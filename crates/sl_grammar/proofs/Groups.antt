-- Brackets that match are read.
use Rattle.std.proofs.Common.{◌≡◌, ℕ, List, [], ◌∷◌, ◌++◌, refl, sym, ap, ◌∙◌, subst, Bool, true, false, if◌then◌else◌}
use Rattle.sl_grammar.specs.Phrase.{Begins, Found, Done, Stopped, IsFront, IsRead}
use Rattle.sl_grammar.specs.Law.{Word, Law, Shape, no_token, found_as}
use Rattle.sl_grammar.specs.Grammar.{is}
use Rattle.sl_grammar.proofs.Then.{one_more}
use Rattle.sl_grammar.specs.Brackets.{Bracket, Opens, Closes, Plain, past, opens, closes, spells_closing, spells_group, read_closing, read_group}

module _ {B : Type 0} (same : B → B → Bool) where
  opens_is : ((m n : B) → same m n ≡ true → m ≡ n) → (n : B) (b : Bracket B) → opens same n b ≡ true → b ≡ Opens n
  opens_is same_is n (Opens m) e = ap Opens (same_is m n e)
  opens_is same_is n (Closes m) e = absurd cc
  opens_is same_is n Plain e = absurd cc

  is_opens : ((m : B) → same m m ≡ true) → (n : B) (b : Bracket B) → b ≡ Opens n → opens same n b ≡ true
  is_opens same_refl n b e = rw e (same_refl n)

-- one token in front: what two phrases spell is the same but for that token
record Leads {K : Type 0} (l m : List K → List K → Type 0) (k : K) : Type 0 where
  to : (us : List K) → m us us → l (k ∷ us) (k ∷ us)
  back : (x us : List K) → l x (k ∷ us) → m us us

leads_read : {K : Type 0} (l m : List K → List K → Type 0) (k : K) → ((x us : List K) → m x us → x ≡ us) → Leads l m k → (ts : List K) (f : Found K (List K)) → IsRead m ts f → IsRead l (k ∷ ts) (found_as (λ x. k ∷ x) f)
leads_read {K} l m k same leads ts f r = by f r
  where
    front : (used rest : List K) → IsFront m used rest → IsFront l (k ∷ used) rest
    front used rest h = record { begins = begins; ends = ends }
      where
        begins : Begins l (k ∷ used)
        begins = let (x, more, w) = h.begins in (k ∷ (used ++ more), more, leads.to (used ++ more) (subst (λ z. m z (used ++ more)) (same x (used ++ more) w) w))

        ends : (j : K) (more : List K) → rest ≡ j ∷ more → Begins l (k ∷ (used ++ j ∷ [])) → ⊥
        ends j more e (x, left, w) = h.ends j more e ((used ++ j ∷ []) ++ left, left, leads.back x ((used ++ j ∷ []) ++ left) w)

    by : (f : Found K (List K)) → IsRead m ts f → IsRead l (k ∷ ts) (found_as (λ x. k ∷ x) f)
    by (Done x rest) (used, e, h, w) = (k ∷ used, ap (λ z. k ∷ z) e, front used rest h, subst (λ z. l (k ∷ z) (k ∷ used)) (sym (same x used w)) (leads.to used (subst (λ z. m z used) (same x used w) w)))
    by (Stopped rest) (used, e, h, w) = (k ∷ used, ap (λ z. k ∷ z) e, front used rest h, λ x v. w used (leads.back x used v))

-- nothing is read where the first token begins no word, and no word is empty
none_read : {K : Type 0} (l : List K → List K → Type 0) → Word l → ((x : List K) → l x [] → ⊥) → (ts : List K) → ((k : K) (more : List K) → ts ≡ k ∷ more → Begins l (k ∷ []) → ⊥) → IsRead l ts (Stopped ts)
none_read l word some ts ends = ([], refl, record { begins = (let (x, a, w) = word in (x, a, w)); ends = ends }, some)

module _ {K B : Type 0} (same : B → B → Bool) (bracket : K → Bracket B) where
  abbrev Closing : List B → List K → List K → Type 0
  Closing = spells_closing same bracket

  -- nothing goes on where all is closed
  closed : (open_kinds : List B) (a : List K) (k : K) (more : List K) → closes same bracket open_kinds a ≡ true → closes same bracket open_kinds (a ++ k ∷ more) ≡ true → ⊥
  closed [] [] k more e f = cc
  closed [] (h ∷ a) k more e f = cc
  closed (n ∷ ns) [] k more e f = cc
  closed (n ∷ ns) (h ∷ a) k more e f = by (bracket h) e f (λ s. closed s a k more)
    where
      by : (b : Bracket B) → past same false (λ s. closes same bracket s a) n ns b ≡ true → past same false (λ s. closes same bracket s (a ++ k ∷ more)) n ns b ≡ true → ((s : List B) → closes same bracket s a ≡ true → closes same bracket s (a ++ k ∷ more) ≡ true → ⊥) → ⊥
      by (Opens m) e f less = less (m ∷ n ∷ ns) e f
      by Plain e f less = less (n ∷ ns) e f
      by (Closes m) e f less = test (same m n) e f
        where
          test : (c : Bool) → (if c then closes same bracket ns a else false) ≡ true → (if c then closes same bracket ns (a ++ k ∷ more) else false) ≡ true → ⊥
          test true e f = less ns e f
          test false e f = cc

  -- one step for each token, by a reader that keeps nothing but the kinds that are open
  module _ (k : K) (ks : List K) (n : B) (ns : List B) where
    pub step_opens : (m : B) → bracket k ≡ Opens m → read_closing same bracket (n ∷ ns) (k ∷ ks) ≡ found_as (λ x. k ∷ x) (read_closing same bracket (m ∷ n ∷ ns) ks)
    step_opens m e = rw e refl

    pub step_plain : bracket k ≡ Plain → read_closing same bracket (n ∷ ns) (k ∷ ks) ≡ found_as (λ x. k ∷ x) (read_closing same bracket (n ∷ ns) ks)
    step_plain e = rw e refl

    pub step_wrong : (m : B) → bracket k ≡ Closes m → same m n ≡ false → read_closing same bracket (n ∷ ns) (k ∷ ks) ≡ Stopped (k ∷ ks)
    step_wrong m e d = rw (e, d) refl

  -- each kind is the same as itself
  module _ (same_refl : (m : B) → same m m ≡ true) where
    -- the step of a token that closes the innermost
    pub step_closes : (k : K) (ks : List K) (n : B) (ns : List B) → bracket k ≡ Closes n → read_closing same bracket (n ∷ ns) (k ∷ ks) ≡ found_as (λ x. k ∷ x) (read_closing same bracket ns ks)
    step_closes k ks n ns e = rw (e, same_refl n) refl

    -- the first step of a group
    pub step_group : (n : B) (k : K) (ks : List K) → bracket k ≡ Opens n → read_group same bracket n (k ∷ ks) ≡ found_as (λ x. k ∷ x) (read_closing same bracket (n ∷ []) ks)
    step_group n k ks e = rw (e, same_refl n) refl

    module _ (closer : B → K) (closer_is : (m : B) → bracket (closer m) ≡ Closes m) where
      -- what closes all that is open
      closers : List B → List K
      closers [] = []
      closers (m ∷ ns) = closer m ∷ closers ns

      closers_close : (open_kinds : List B) → closes same bracket open_kinds (closers open_kinds) ≡ true
      unfolding closers
      closers_close [] = refl
      closers_close (m ∷ ns) = rw (closer_is m, same_refl m) (closers_close ns)

      closing_word : (open_kinds : List B) → Word (Closing open_kinds)
      closing_word s = (closers s, closers s, (refl, closers_close s))

      -- all up to the last bracket that closes is read, whatever is open
      pub closing_reads : (open_kinds : List B) (ts : List K) → IsRead (Closing open_kinds) ts (read_closing same bracket open_kinds ts)
      closing_reads [] ts = ([], refl, record { begins = ([], [], (refl, refl)); ends = λ k more e b. let (x, left, w) = b in let f = w.1 in cc }, (refl, refl))
      closing_reads (n ∷ ns) [] = none_read (Closing (n ∷ ns)) (closing_word (n ∷ ns)) (λ x w. let e = w.1 in cc) [] (λ k more e b. cc)
      closing_reads (n ∷ ns) (k ∷ ks) = by (bracket k) refl (λ s. closing_reads s ks)
        where
          word : Word (Closing (n ∷ ns))
          word = closing_word (n ∷ ns)

          some : (x : List K) → Closing (n ∷ ns) x [] → ⊥
          some x w = let f = w.1 in cc

          -- the token is passed, and `s` is open then
          on : (s : List B) → ((us : List K) → closes same bracket (n ∷ ns) (k ∷ us) ≡ closes same bracket s us) → IsRead (Closing s) ks (read_closing same bracket s ks) → IsRead (Closing (n ∷ ns)) (k ∷ ks) (found_as (λ x. k ∷ x) (read_closing same bracket s ks))
          on s h r = leads_read (Closing (n ∷ ns)) (Closing s) k (λ x us w. w.0) (record { to = λ us w. (refl, h us ∙ w.1); back = λ x us w. (refl, sym (h us) ∙ w.1) }) ks (read_closing same bracket s ks) r

          by : (b : Bracket B) → bracket k ≡ b → ((s : List B) → IsRead (Closing s) ks (read_closing same bracket s ks)) → IsRead (Closing (n ∷ ns)) (k ∷ ks) (past same (Stopped (k ∷ ks)) (λ s. found_as (λ x. k ∷ x) (read_closing same bracket s ks)) n ns b)
          by (Opens m) e less = on (m ∷ n ∷ ns) (λ us. rw e refl) (less (m ∷ n ∷ ns))
          by Plain e less = on (n ∷ ns) (λ us. rw e refl) (less (n ∷ ns))
          by (Closes m) e less = test (same m n) refl
            where
              ends : same m n ≡ false → (j : K) (more : List K) → k ∷ ks ≡ j ∷ more → Begins (Closing (n ∷ ns)) (j ∷ []) → ⊥
              ends d j more f (x, left, w) =
                  let heads : j ≡ k = cc in
                  let g : closes same bracket (n ∷ ns) (k ∷ left) ≡ true = subst (λ z. closes same bracket (n ∷ ns) (z ∷ left) ≡ true) heads w.1 in
                  let wrong : closes same bracket (n ∷ ns) (k ∷ left) ≡ false = rw (e, d) refl in
                  absurd (cc (g, wrong))

              test : (c : Bool) → same m n ≡ c → IsRead (Closing (n ∷ ns)) (k ∷ ks) (if c then found_as (λ x. k ∷ x) (read_closing same bracket ns ks) else Stopped (k ∷ ks))
              test true d = on ns (λ us. rw (e, d) refl) (less ns)
              test false d = none_read (Closing (n ∷ ns)) word some (k ∷ ks) (ends d)

      -- a group: its first token is of one of the kinds `firsts`
      module _ (kind : K → ℕ) (n : B) (firsts : List ℕ) (first_opens : (k : K) → is kind firsts k ≡ true → bracket k ≡ Opens n) (opens_first : (k : K) → bracket k ≡ Opens n → is kind firsts k ≡ true) (opener : K) (opener_is : bracket opener ≡ Opens n) where
        abbrev Group : List K → List K → Type 0
        Group = spells_group same bracket n

        -- the shortest group that a token begins
        begun : (k : K) → bracket k ≡ Opens n → Group (k ∷ closers (n ∷ [])) (k ∷ closers (n ∷ []))
        begun k e = (refl, k, closers (n ∷ []), refl, e, closers_close (n ∷ []))

        pub group_word : Word Group
        group_word = (opener ∷ closers (n ∷ []), opener ∷ closers (n ∷ []), begun opener opener_is)

        opened : (x : List K) (k : K) (ks : List K) → Group x (k ∷ ks) → (bracket k ≡ Opens n) × (closes same bracket (n ∷ []) ks ≡ true)
        opened x k ks (s, j, js, e, o, c) =
            let heads : j ≡ k = cc in
            let rest : js ≡ ks = cc in
            (subst (λ z. bracket z ≡ Opens n) heads o, subst (λ z. closes same bracket (n ∷ []) z ≡ true) rest c)

        no_group : (x : List K) → Group x [] → ⊥
        no_group x (s, j, js, e, o, c) = cc

        pub group_shape : Shape Group (is kind firsts) false
        group_shape = record {
          starts = record { sure = λ k e. (k ∷ closers (n ∷ []), closers (n ∷ []), begun k (first_opens k e)); only = λ k b. let (x, more, w) = b in opens_first k (opened x k more w).0 };
          word = group_word;
          some = λ e x w. no_group x w;
          empty = λ e. absurd cc;
        }

        group_reads : ((m n : B) → same m n ≡ true → m ≡ n) → (ts : List K) → IsRead Group ts (read_group same bracket n ts)
        group_reads same_is [] = none_read Group group_word no_group [] (λ k more e b. cc)
        group_reads same_is (k ∷ ks) = by (opens same n (bracket k)) refl
          where
            by : (b : Bool) → opens same n (bracket k) ≡ b → IsRead Group (k ∷ ks) (if b then found_as (λ x. k ∷ x) (read_closing same bracket (n ∷ []) ks) else Stopped (k ∷ ks))
            by true e = leads_read Group (Closing (n ∷ [])) k (λ x us w. w.0) (record { to = λ us w. (refl, k, us, refl, opens_is same same_is n (bracket k) e, w.1); back = λ x us w. (refl, (opened x k us w).1) }) ks (read_closing same bracket (n ∷ []) ks) (closing_reads (n ∷ []) ks)
            by false e = none_read Group group_word no_group (k ∷ ks) ends
              where
                ends : (j : K) (more : List K) → k ∷ ks ≡ j ∷ more → Begins Group (j ∷ []) → ⊥
                ends j more f (x, left, w) =
                    let heads : j ≡ k = cc in
                    let o : bracket k ≡ Opens n = subst (λ z. bracket z ≡ Opens n) heads (opened x j left w).0 in
                    let t : opens same n (bracket k) ≡ true = is_opens same same_refl n (bracket k) o in
                    absurd (cc (t, e))

        -- nothing goes on after a group
        group_ends : (x : List K) (a : List K) (k : K) → Group x a → Begins Group (a ++ k ∷ []) → ⊥
        group_ends x [] k w b = no_group x w
        group_ends x (h ∷ a) k w (y, more, v) =
            closed (n ∷ []) a k more (opened x h a w).1 (subst (λ z. closes same bracket (n ∷ []) z ≡ true) (one_more a k more) (opened y h ((a ++ k ∷ []) ++ more) v).1)

        pub group_law : ((m n : B) → same m n ≡ true → m ≡ n) → (size : ℕ) → Law Group (read_group same bracket n) no_token size
        group_law same_is size = record { reads = λ ts lt. group_reads same_is ts; goes = λ x a k lt w b. absurd (group_ends x a k w b); one = λ x y a lt w v. w.0 ∙ sym v.0 }
