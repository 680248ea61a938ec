-- What a writer wrote, one piece after another.
use Rattle.std.proofs.Common.{◌≡◌, ℕ, ◌+◌, ◌<◌, List, [], ◌≢◌, ◌∷◌, ◌++◌, codes, length, take, get_or, map, refl, sym, ap, ◌∙◌, subst, append_assoc, append-nil}
use Rattle.std.specs.Prelude.{◌≤◌, Result, Ok, Err}
use Rattle.std.specs.List.{flat_map}
use Rattle.std.proofs.lemmas.List.{take_more, take_all}
use Rattle.std.proofs.lemmas.Grind.{flat_map-append}
use Rattle.sl_text.specs.declared.fault.Mem.{Mem}
use Rattle.c_tree.specs.declared.tree.CFile.{CFile}
use Rattle.c_tree.specs.declared.tree.CMember.{CMember}
use Rattle.c_tree.specs.declared.tree.CVar.{CVar}
use Rattle.c_tree.specs.Flat.{Lexeme, lexeme, lexemes, flat_var, flat_choice, cflat}
use Rattle.c_tree.specs.Text.{prelude, postlude}
use Rattle.c_write.specs.declared.layout.Place.{Place}
use Rattle.c_write.specs.declared.layout.Writer.{Writer}
use Rattle.c_write.specs.Layout.{gap, moved, laid, first_place, text_of}
use Rattle.c_write.specs.Written.{behind_all, Wrote, Writes}

-- the text of tokens and of others behind them
laid_then : (xs ys : List Lexeme) (place : Place) → laid place (xs ++ ys) ≡ laid place xs ++ laid (behind_all place xs) ys
laid_then [] ys place = refl
laid_then (x ∷ xs) ys place =
    ap (λ rest. gap place x.spelling ++ x.spelling ++ rest) (laid_then xs ys (moved place x.spelling))
    ∙ sym (append_assoc (gap place x.spelling ++ x.spelling) (laid (moved place x.spelling) xs) (laid (behind_all (moved place x.spelling) xs) ys))

-- where the writer stands behind both
behind_then : (xs ys : List Lexeme) (place : Place) → behind_all place (xs ++ ys) ≡ behind_all (behind_all place xs) ys
behind_then [] ys place = refl
behind_then (x ∷ xs) ys place = behind_then xs ys (moved place x.spelling)

-- nothing
pub wrote_none : (writer : Writer) → Wrote [] writer writer
wrote_none writer = record { bytes = sym (append-nil writer.bytes.items); place = refl }

-- tokens, and then others
pub wrote_then : {xs ys : List Lexeme} {a b c : Writer} → Wrote xs a b → Wrote ys b c → Wrote (xs ++ ys) a c
wrote_then {xs = xs} {ys = ys} {a = a} {b = b} {c = c} first second = record {
  bytes =
      second.bytes
      ∙ (ap (λ bytes. bytes ++ laid b.place ys) first.bytes
      ∙ (ap (λ place. (a.bytes.items ++ laid a.place xs) ++ laid place ys) first.place
      ∙ (append_assoc a.bytes.items (laid a.place xs) (laid (behind_all a.place xs) ys)
      ∙ ap (λ text. a.bytes.items ++ text) (sym (laid_then xs ys a.place)))));
  place = second.place ∙ (ap (λ place. behind_all place ys) first.place ∙ sym (behind_then xs ys a.place));
}

-- tokens that were written, and then others that perhaps weren't
pub writes_then : {xs : List Lexeme} {a b : Writer} (ys : List Lexeme) (c : Writer) (result : Result (Unit {0}) Mem) → Wrote xs a b → Writes ys b c result → Writes (xs ++ ys) a c result
writes_then ys c (Ok done) first second = wrote_then first second
writes_then ys c (Err mem) first second = tt

-- the same tokens by another name
pub wrote_same : {xs : List Lexeme} {a b : Writer} (ys : List Lexeme) → xs ≡ ys → Wrote xs a b → Wrote ys a b
wrote_same {a = a} {b = b} ys same wrote = subst (λ tokens. Wrote tokens a b) same wrote

-- the tokens of one more item of a list
pub wrote_more : {X : Type 0} {a b c : Writer} (f : X → List Lexeme) (xs : List X) (i : ℕ) (x d : X) → i < length xs → x ≡ get_or xs i d → Wrote (flat_map f (take i xs)) a b → Wrote (f x) b c → Wrote (flat_map f (take (i + 1) xs)) a c
wrote_more f xs i x d within is first second =
    wrote_same (flat_map f (take (i + 1) xs))
    (ap (λ rest. flat_map f (take i xs) ++ rest) (sym (append-nil (f x)))
    ∙ (sym (flat_map-append f (take i xs) (x ∷ [])) ∙ ap (flat_map f) (ap (λ y. take i xs ++ (y ∷ [])) is ∙ sym (take_more xs i d within))))
    (wrote_then first second)

-- the tokens of all items, by another name of the list
pub wrote_all : {X : Type 0} {a b : Writer} (f : X → List Lexeme) (xs ys : List X) (i : ℕ) → length xs ≤ i → xs ≡ ys → Wrote (flat_map f (take i xs)) a b → Wrote (flat_map f ys) a b
wrote_all f xs ys i whole same wrote = wrote_same (flat_map f ys) (ap (flat_map f) (take_all i xs whole ∙ same)) wrote

-- tokens one by one are the tokens of a list
pub lexemes_each : {X : Type 0} (f : X → List ℕ) (xs : List X) → flat_map (λ x. lexemes (f x ∷ [])) xs ≡ lexemes (map f xs)
lexemes_each f [] = refl
lexemes_each f (x ∷ xs) = ap (λ rest. lexeme (f x) ∷ rest) (lexemes_each f xs)

-- the tokens of items are those lists one behind another
pub flat_each : {X : Type 0} (f : X → List Lexeme) (xs : List X) → flat_map f xs ≡ flat_map (λ tokens. tokens) (map f xs)
flat_each f [] = refl
flat_each f (x ∷ xs) = ap (λ rest. f x ++ rest) (flat_each f xs)

-- the tokens of a member that is a union
pub flat_union : (member : CMember) (choice : List CVar) → choice ≢ [] → lexemes (codes "union" ∷ codes "{" ∷ []) ++ flat_map flat_var choice ++ lexemes (codes "}" ∷ member.name ∷ codes ";" ∷ []) ≡ flat_choice member choice
flat_union member [] some = absurd (some refl)
flat_union member (first ∷ others) some = refl

-- the text of a file: its first lines, its tokens, a line feed and its last line
pub wrote_text : (a b c d e : Writer) (file : CFile) → a.bytes.items ≡ [] → a.place ≡ first_place → b.bytes.items ≡ a.bytes.items ++ prelude → b.place ≡ a.place → Wrote (cflat file) b c → d.bytes.items ≡ c.bytes.items ++ codes "\n" → e.bytes.items ≡ d.bytes.items ++ postlude → e.bytes.items ≡ text_of file
unfolding text_of
wrote_text a b c d e file nothing start opened stayed wrote ended closed =
    closed
    ∙ ap (λ bytes. bytes ++ postlude)
    (ended ∙ ap (λ bytes. bytes ++ codes "\n")
    (wrote.bytes
    ∙ (ap (λ place. b.bytes.items ++ laid place (cflat file)) (stayed ∙ start)
    ∙ ap (λ bytes. bytes ++ laid first_place (cflat file)) (opened ∙ ap (λ bytes. bytes ++ prelude) nothing))))
