-- There is just one verdict on sources.
use Rattle.std.proofs.Common.{◌≡◌, ℕ, List, [], ◌∷◌, ◌++◌, Some, refl, sym, ap, ap₂, ◌∙◌, subst, inl, inr}
use Rattle.std.specs.Prelude.{Option, None, Result, Ok, Err, ◌⊎◌}
use Rattle.sl_text.specs.declared.token.Token.{Token}
use Rattle.sl_text.specs.declared.fault.Broken.{Broken}
use Rattle.sl_text.specs.declared.fault.Fault.TheVariants as fault
use Rattle.sl_tree.specs.declared.tree.File.{File}
use Rattle.sl_outside.specs.Folder.{Contents}
use Rattle.sl_parse.specs.Answers.{Parsed}
use Rattle.sl_words.specs.Words.{Command, files_of, Reads}
use Rattle.sl_words.specs.WordsReading.{command_of}
use Rattle.sl_words.proofs.Reading.{command_of_reading}
use Rattle.sl_tool.specs.Accepting.{HasTree, BreaksGrammar, IsFirstBroken}
use Rattle.sl_tool.specs.SourceFiles.{SourceFile, AreSources, only_file, HaveTrees, IsFirstBrokenOf, Verdict, Breaks, Trees, Judged, sources_of}
use Rattle.sl_tool.specs.Answer.{AsksFor, IsVerdict}
use Rattle.sl_token.specs.Cut.{AreTokens, IsFirstFault}
use Rattle.sl_token.proofs.OneAnswer.{one_tokens, one_fault, tokens_or_fault}
use Rattle.sl_parse.proofs.OneAnswer.{one_tree, one_broken, tree_or_broken}
use Rattle.sl_token.proofs.EachAnswer.{each_answer as each_cut}
use Rattle.sl_parse.proofs.EachAnswer.{each_answer as each_parsed}
use Rattle.sl_tool.proofs.Sources.{sources_found}

module _ {file : ℕ} {bytes : List ℕ} where
  -- a file has one tree at most
  pub same_tree : {x y : File} → HasTree file bytes x → HasTree file bytes y → x ≡ y
  same_tree {x} {y} h k = one_tree file bytes k.tokens x y (subst (λ tokens. Parsed file bytes tokens (Ok x)) (one_tokens h.cut k.cut) h.parsed) k.parsed

  -- it breaks one rule first
  pub same_broken : {a b : Broken} → IsFirstBroken file bytes a → IsFirstBroken file bytes b → a ≡ b
  same_broken {a} {b} (inl h) (inl k) = one_fault h k
  same_broken {a} {b} (inl h) (inr k) = absurd (tokens_or_fault k.cut h)
  same_broken {a} {b} (inr h) (inl k) = absurd (tokens_or_fault h.cut k)
  same_broken {a} {b} (inr h) (inr k) = one_broken file bytes k.tokens a b (subst (λ tokens. Parsed file bytes tokens (Err (fault.Broken a))) (one_tokens h.cut k.cut) h.parsed) k.parsed

  -- where it has a tree it breaks none
  pub accepted_or_broken : {x : File} {b : Broken} → HasTree file bytes x → IsFirstBroken file bytes b → ⊥
  accepted_or_broken {x} {b} h (inl k) = tokens_or_fault h.cut k
  accepted_or_broken {x} {b} h (inr k) = tree_or_broken file bytes k.tokens x b (subst (λ tokens. Parsed file bytes tokens (Ok x)) (one_tokens h.cut k.cut) h.parsed) k.parsed

-- sources have one list of trees at most
pub same_trees : (sources : List SourceFile) (xs ys : List File) → HaveTrees sources xs → HaveTrees sources ys → xs ≡ ys
same_trees [] [] [] h k = refl
same_trees [] [] (y ∷ ys) h k = absurd k
same_trees [] (x ∷ xs) ys h k = absurd h
same_trees (source ∷ sources) [] ys h k = absurd h
same_trees (source ∷ sources) (x ∷ xs) [] h k = absurd k
same_trees (source ∷ sources) (x ∷ xs) (y ∷ ys) h k = ap₂ (λ z zs. z ∷ zs) (same_tree h.0 k.0) (same_trees sources xs ys h.1 k.1)

-- where all of them have trees, none breaks a rule
trees_or_breaks : (earlier later : List SourceFile) (source : SourceFile) (trees : List File) (b : Broken) → HaveTrees (earlier ++ source ∷ later) trees → IsFirstBroken only_file source.bytes b → ⊥
trees_or_breaks [] later source [] b h k = h
trees_or_breaks [] later source (x ∷ xs) b h k = accepted_or_broken h.0 k
trees_or_breaks (other ∷ earlier) later source [] b h k = h
trees_or_breaks (other ∷ earlier) later source (x ∷ xs) b h k = trees_or_breaks earlier later source xs b h.1 k

pub trees_or_broken : (sources : List SourceFile) (trees : List File) (source : SourceFile) (b : Broken) → HaveTrees sources trees → IsFirstBrokenOf sources source b → ⊥
trees_or_broken sources trees source b h (earlier, later, kept, order, have, breaks) = trees_or_breaks earlier later source trees b (subst (λ sources. HaveTrees sources trees) order h) breaks

-- one source is the first that breaks a rule
same_first : (e f : List SourceFile) (l m : List SourceFile) (s t : SourceFile) (xs ys : List File) (a b : Broken) → e ++ s ∷ l ≡ f ++ t ∷ m
    → HaveTrees e xs → HaveTrees f ys → IsFirstBroken only_file s.bytes a → IsFirstBroken only_file t.bytes b → Breaks s a ≡ Breaks t b
same_first [] [] l m s t xs ys a b order h k u v =
    let same : s ≡ t = cc in
    ap₂ Breaks same (same_broken (subst (λ (r : SourceFile). IsFirstBroken only_file r.bytes a) same u) v)
same_first [] (y ∷ f) l m s t xs [] a b order h k u v = absurd k
same_first [] (y ∷ f) l m s t xs (z ∷ zs) a b order h k u v =
    let same : s ≡ y = cc in
    absurd (accepted_or_broken k.0 (subst (λ (r : SourceFile). IsFirstBroken only_file r.bytes a) same u))
same_first (x ∷ e) [] l m s t [] ys a b order h k u v = absurd h
same_first (x ∷ e) [] l m s t (z ∷ zs) ys a b order h k u v =
    let same : t ≡ x = cc in
    absurd (accepted_or_broken h.0 (subst (λ (r : SourceFile). IsFirstBroken only_file r.bytes b) same v))
same_first (x ∷ e) (y ∷ f) l m s t [] ys a b order h k u v = absurd h
same_first (x ∷ e) (y ∷ f) l m s t (z ∷ zs) [] a b order h k u v = absurd k
same_first (x ∷ e) (y ∷ f) l m s t (z ∷ zs) (w ∷ ws) a b order h k u v =
    let behind : e ++ s ∷ l ≡ f ++ t ∷ m = cc in
    same_first e f l m s t zs ws a b behind h.1 k.1 u v

-- there is one verdict at most
pub one_verdict : (sources : List SourceFile) (v w : Verdict) → Judged sources v → Judged sources w → v ≡ w
one_verdict sources (Breaks s a) (Breaks t b) (e, l, xs, order, h, u) (f, m, ys, other, k, v) = same_first e f l m s t xs ys a b (sym order ∙ other) h k u v
one_verdict sources (Breaks s a) (Trees ys) h k = absurd (trees_or_broken sources ys s a k h)
one_verdict sources (Trees xs) (Breaks t b) h k = absurd (trees_or_broken sources xs t b h k)
one_verdict sources (Trees xs) (Trees ys) h k = ap Trees (same_trees sources xs ys h k)

-- a file has a tree, or breaks a rule first
tree_or_rule : (file : ℕ) (bytes : List ℕ) → ((tree : File) × HasTree file bytes tree) ⊎ ((broken : Broken) × IsFirstBroken file bytes broken)
tree_or_rule file bytes = by (each_cut file bytes)
  where
    parsed : (tokens : List Token) → AreTokens file bytes tokens → ((tree : File) × Parsed file bytes tokens (Ok tree)) ⊎ ((broken : Broken) × Parsed file bytes tokens (Err (fault.Broken broken)))
        → ((tree : File) × HasTree file bytes tree) ⊎ ((broken : Broken) × IsFirstBroken file bytes broken)
    parsed tokens cut (inl (tree, is)) = inl (tree, record { tokens = tokens; cut = cut; parsed = is })
    parsed tokens cut (inr (broken, is)) = inr (broken, inr (record { tokens = tokens; cut = cut; parsed = is }))

    by : ((tokens : List Token) × AreTokens file bytes tokens) ⊎ ((broken : Broken) × IsFirstFault file bytes broken) → ((tree : File) × HasTree file bytes tree) ⊎ ((broken : Broken) × IsFirstBroken file bytes broken)
    by (inl (tokens, cut)) = parsed tokens cut (each_parsed file bytes tokens)
    by (inr (broken, first)) = inr (broken, inl first)

-- there is a verdict
pub each_verdict : (sources : List SourceFile) → (verdict : Verdict) × Judged sources verdict
each_verdict [] = (Trees [], tt)
each_verdict (source ∷ sources) = by (tree_or_rule only_file source.bytes) (each_verdict sources)
  where
    by : ((tree : File) × HasTree only_file source.bytes tree) ⊎ ((broken : Broken) × IsFirstBroken only_file source.bytes broken) → (verdict : Verdict) × Judged sources verdict
        → (verdict : Verdict) × Judged (source ∷ sources) verdict
    by (inr (broken, first)) others = (Breaks source broken, ([], sources, [], refl, tt, first))
    by (inl (tree, has)) (Trees trees, have) = (Trees (tree ∷ trees), (has, have))
    by (inl (tree, has)) (Breaks other broken, (earlier, later, trees, order, have, first)) =
        (Breaks other broken, (source ∷ earlier, later, tree ∷ trees, ap (λ z. source ∷ z) order, (has, have), first))

-- a verdict on the sources that the words ask for is the verdict on the files
pub verdict_is : (words : List (List ℕ)) (files : Contents) (sources : List SourceFile) (v : Verdict) → AsksFor words files sources → Judged sources v → IsVerdict words files v
verdict_is words files sources v (command, reads, are) judged others (other, asks, have) =
    let same : command ≡ other = let e : Some command ≡ Some other = sym (command_of_reading words command reads) ∙ command_of_reading words other asks in cc in
    let both : sources ≡ others = let e : Ok sources ≡ Ok others = sym (sources_found files (files_of command) sources are) ∙ (ap (λ c. sources_of files (files_of c)) same ∙ sources_found files (files_of other) others have) in cc in
    subst (λ all. Judged all v) both judged

-- and the verdict on the files is that one
pub is_verdict : (words : List (List ℕ)) (files : Contents) (sources : List SourceFile) (v w : Verdict) → AsksFor words files sources → Judged sources v → IsVerdict words files w → w ≡ v
is_verdict words files sources v w asks judged is = one_verdict sources w v (is sources asks) judged

-- there is a verdict on what any words ask for
pub has_verdict : (words : List (List ℕ)) (files : Contents) → (verdict : Verdict) × IsVerdict words files verdict
has_verdict words files = by (command_of words) refl
  where
    found : (command : Command) → command_of words ≡ Some command → (held : Result (List SourceFile) (List ℕ)) → sources_of files (files_of command) ≡ held → (verdict : Verdict) × IsVerdict words files verdict
    found command e held f = go held f
      where
        same : (others : List SourceFile) → AsksFor words files others → held ≡ Ok others
        same others (other, reads, have) =
            let one : command ≡ other = let s : Some command ≡ Some other = sym e ∙ command_of_reading words other reads in cc in
            sym f ∙ (ap (λ c. sources_of files (files_of c)) one ∙ sources_found files (files_of other) others have)

        go : (result : Result (List SourceFile) (List ℕ)) → sources_of files (files_of command) ≡ result → (verdict : Verdict) × IsVerdict words files verdict
        go (Ok sources) g =
            let (verdict, judged) = each_verdict sources in
            (verdict, λ others asks. (let all : sources ≡ others = let s : Ok sources ≡ Ok others = sym g ∙ (f ∙ same others asks) in cc in subst (λ z. Judged z verdict) all judged))
        go (Err name) g = (Trees [], λ others asks. absurd (let s : Err name ≡ Ok others = sym g ∙ (f ∙ same others asks) in cc))

    by : (o : Option Command) → command_of words ≡ o → (verdict : Verdict) × IsVerdict words files verdict
    by None e = (Trees [], λ others asks. absurd (let s : None ≡ Some asks.0 = sym e ∙ command_of_reading words asks.0 asks.1 in cc))
    by (Some command) e = found command e (sources_of files (files_of command)) refl
