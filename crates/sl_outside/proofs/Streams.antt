-- What is written of some bytes after each of many writes.
use Rattle.std.proofs.Common.{◌≡◌, ℕ, ◌-◌, List, ◌++◌, length, take, drop, sym, ap, ◌∙◌, append_assoc, take-append-drop}
use Rattle.std.proofs.lemmas.List.{take_rest}
use Rattle.std.specs.Prelude.{Option}
use Rattle.std.specs.Io.KnownBytes.{Appends}
use Rattle.std.proofs.KnownBytes.{Appends-trans}

-- all bytes but for the rest are written
abbrev pub WrittenUpTo : Option (List ℕ) → Option (List ℕ) → List ℕ → List ℕ → Type 0
WrittenUpTo old new all rest = (done : List ℕ) × (all ≡ done ++ rest) × Appends old new done

-- a write that takes so many bytes of the rest writes on
pub writes_on : (old before after : Option (List ℕ)) (all rest : List ℕ) (count : ℕ) → WrittenUpTo old before all rest → Appends before after (take count rest) → WrittenUpTo old after all (take (length rest - count) (drop count rest))
writes_on old before after all rest count (done, is, written) more = (
  done ++ take count rest,
  is
      ∙ ap (λ end. done ++ end) (sym (take-append-drop count rest))
      ∙ sym (append_assoc done (take count rest) (drop count rest))
      ∙ ap (λ end. (done ++ take count rest) ++ end) (sym (take_rest rest count)),
  Appends-trans old before after done (take count rest) written more,
)
