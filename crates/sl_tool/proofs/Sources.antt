-- The sources that are found are those that the relations say.
use Rattle.std.proofs.Common.{◌≡◌, ℕ, List, [], ◌∷◌, ◌++◌, Some, refl, sym, ap, ap₂, ◌∙◌, subst}
use Rattle.std.specs.Prelude.{Ok, Err}
use Rattle.std.specs.List.{All}
use Rattle.std.proofs.lemmas.List.Elements.{All-nil, All-cons, All-head, All-tail, All-map}
use Rattle.sl_outside.specs.Folder.{Contents}
use Rattle.sl_tool.specs.SourceFiles.{SourceFile, names_of, AreSources, IsThere, IsFirstMissing, with_source, sources_of}

-- the first file that isn't there is found
pub missing_found : (files : Contents) (names : List (List ℕ)) (name : List ℕ) → IsFirstMissing files names name → sources_of files names ≡ Err name
missing_found files names name (earlier, later, order, there, none) = ap (sources_of files) order ∙ at earlier there
  where
    at : (earlier : List (List ℕ)) → All (λ other. IsThere files other) earlier → sources_of files (earlier ++ name ∷ later) ≡ Err name
    at [] all = ap (λ found. with_source name found (sources_of files later)) none
    at (other ∷ earlier) all =
        let is = All-head (λ other. IsThere files other) other earlier all in
        ap₂ (λ found rest. with_source other found rest) is.1 (at earlier (All-tail (λ other. IsThere files other) other earlier all))

-- the sources are found
pub sources_found : (files : Contents) (names : List (List ℕ)) (sources : List SourceFile) → AreSources files names sources → sources_of files names ≡ Ok sources
sources_found files names sources are = ap (sources_of files) (sym are.named) ∙ at sources are.held
  where
    at : (sources : List SourceFile) → All (λ source. files source.name ≡ Some source.bytes) sources → sources_of files (names_of sources) ≡ Ok sources
    at [] all = refl
    at (source ∷ sources) all =
        ap₂ (λ found rest. with_source source.name found rest) (All-head (λ source. files source.name ≡ Some source.bytes) source sources all)
        (at sources (All-tail (λ source. files source.name ≡ Some source.bytes) source sources all))

-- the file of a source is there
pub sources_there : (held : Contents) (names : List (List ℕ)) (sources : List SourceFile) → AreSources held names sources → All (λ name. IsThere held name) names
sources_there held names sources are =
    subst (λ names. All (λ name. IsThere held name) names) are.named
    (All-map (λ name. IsThere held name) (λ source. source.name) sources (at sources are.held))
  where
    at : (sources : List SourceFile) → All (λ source. held source.name ≡ Some source.bytes) sources → All (λ source. IsThere held source.name) sources
    at [] all = All-nil (λ source. IsThere held source.name)
    at (source ∷ sources) all =
        All-cons (λ source. IsThere held source.name) source sources
        (source.bytes, All-head (λ source. held source.name ≡ Some source.bytes) source sources all)
        (at sources (All-tail (λ source. held source.name ≡ Some source.bytes) source sources all))
