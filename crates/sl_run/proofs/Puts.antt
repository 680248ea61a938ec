-- Bytes that are put one after another, and what the outside sees of events one after another.
use Rattle.std.proofs.Common.{◌≡◌, ℕ, suc, ◌+◌, List, [], ◌∷◌, ◌++◌, map, length, refl, sym, ap, ◌∙◌, append_assoc, append-nil, zero-add, suc-add}
use Rattle.std.proofs.lemmas.List.{map-append}
use Rattle.sl_run.specs.Run.{Event, Puts, Asks, Trace, Went, put, put_all, ◌>>◌}
use Rattle.sl_run.specs.Outcome.{printed, asked}

module _ {S : Type 0} where
  -- to put bytes is to add as many events, and nothing else
  pub put_all_is : (bs : List ℕ) (t : Trace) (s : S) → put_all bs t s ≡ Went tt (record t { events = t.events ++ map Puts bs }) s
  put_all_is [] t s = ap (λ es. Went tt (record t { events = es }) s) (sym (append-nil t.events))
  put_all_is (b ∷ bs) t s =
      put_all_is bs (record t { events = t.events ++ Puts b ∷ [] }) s
      ∙ ap (λ es. Went tt (record t { events = es }) s) (append_assoc t.events (Puts b ∷ []) (map Puts bs))

  -- to put bytes and then others is to put them all
  pub put_all-append : (bs cs : List ℕ) → put_all {S = S} (bs ++ cs) ≡ (put_all bs >> put_all cs)
  put_all-append [] cs = refl
  put_all-append (b ∷ bs) cs = ap (λ a. put b >> a) (put_all-append bs cs)

-- what events print, one after another
pub printed-append : (es fs : List Event) → printed (es ++ fs) ≡ printed es ++ printed fs
printed-append [] fs = refl
printed-append (Puts b ∷ es) fs = ap (λ bs. b ∷ bs) (printed-append es fs)
printed-append (Asks ∷ es) fs = printed-append es fs

-- bytes that are put are printed
pub printed-puts : (bs : List ℕ) → printed (map Puts bs) ≡ bs
printed-puts [] = refl
printed-puts (b ∷ bs) = ap (λ bs. b ∷ bs) (printed-puts bs)

-- bytes that are put ask for nothing
pub asked-puts : (bs : List ℕ) → asked (map Puts bs) ≡ []
asked-puts [] = refl
asked-puts (b ∷ bs) = ap (map suc) (asked-puts bs)

-- to add nothing to numbers changes none
map_zero-add : (ns : List ℕ) → map (λ n. 0 + n) ns ≡ ns
map_zero-add [] = refl
map_zero-add (n ∷ ns) = λ k. zero-add n k ∷ map_zero-add ns k

-- to add so many to numbers, and then one, is to add one more
map_suc-add : (m : ℕ) (ns : List ℕ) → map suc (map (λ n. m + n) ns) ≡ map (λ n. suc m + n) ns
map_suc-add m [] = refl
map_suc-add m (n ∷ ns) = λ k. sym (suc-add m n) k ∷ map_suc-add m ns k

-- what events ask, one after another: before what the later ones ask, the bytes of the earlier ones were put too
pub asked-append : (es fs : List Event) → asked (es ++ fs) ≡ asked es ++ map (λ n. length (printed es) + n) (asked fs)
asked-append [] fs = sym (map_zero-add (asked fs))
asked-append (Puts b ∷ es) fs =
    ap (map suc) (asked-append es fs)
    ∙ (map-append suc (asked es) (map (λ n. length (printed es) + n) (asked fs))
    ∙ ap (λ ns. map suc (asked es) ++ ns) (map_suc-add (length (printed es)) (asked fs)))
asked-append (Asks ∷ es) fs = ap (λ ns. 0 ∷ ns) (asked-append es fs)
