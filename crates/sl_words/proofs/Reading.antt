-- Words are read exactly as they are meant.
use Rattle.std.proofs.Common.{◌≡◌, ◌≢◌, ◌⊎◌, inl, inr, ℕ, zero, suc, List, [], ◌∷◌, ◌++◌, length, append_assoc, drop, Bool, true, false, ◌==◌, not, ◌&&◌, nat_le, Option, Some, None, option_map, refl, sym, ap, ap₂, ◌∙◌, subst, cond, arith}
use Rattle.std.specs.Prelude.{codes, Result, Ok, Err, IfOk, MatchOption}
use Rattle.std.specs.List.{All, Contains, starts_with}
use Rattle.std.specs.Option.{option_and_then}
use Rattle.std.specs.Str.{bytes_eq}
use Rattle.std.proofs.lemmas.Slice.Eq.{bytes_eq-Decides, starts_is}
use Rattle.std.proofs.lemmas.Bool.{le-leb, leb-true, and_from, and_parts}
use Rattle.std.proofs.lemmas.Bool.Decides.{Decides-eqb}
use Rattle.std.proofs.lemmas.List.Elements.{All-head, All-tail, All-nil, All-cons}
use Rattle.std.proofs.lemmas.List.{append-nil}
use Rattle.std.proofs.lemmas.Option.{cond_some, option_and_then_some}
use Rattle.sl_words.specs.Words.{Command, Run, Emit, Check, most_files, default_turns, AreEnough, IsPlainWord, IsJoined, IsShort, value_options, Part, File, Given, GivesValue, IsPart, AreParts, HasParts, files_in, options_in, Gives, AreTurns, Reads, HasNoReading, BeginsNoCommand}
use Rattle.sl_words.specs.WordsReading.{is_plain, Kind, IsFile, Waits, HasValue, IsDashes, IsOther, output_kind, turns_kind, kind_of, Gathered, nothing, with_file, spelled, with_option, gathered, are_enough, turns_of, turns_given, run_given, emit_under, emit_given, check_given, run_words, emit_words, check_words, command_of, command_seen}
use Rattle.sl_words.specs.declared.command.Command as declared
use Rattle.sl_words.specs.declared.found.Place.{Place}
use Rattle.sl_words.specs.declared.found.Place.TheVariants.{Among, BehindOption, BehindDashes}
use Rattle.sl_words.specs.declared.kinds.Valued.{Valued}
use Rattle.sl_words.specs.declared.kinds.Valued.TheVariants.{Output, Turns}
use Rattle.sl_words.proofs.Turns.{turns_found, turns_there}

-- a word that passes the test is plain
plain : (word : List ℕ) → is_plain word ≡ true → IsPlainWord word
plain [] e = absurd (cc e)
plain (byte ∷ []) e = tt
plain (byte ∷ next ∷ bytes) e = λ is. let f : (byte == 45) ≡ true = (Decides-eqb byte 45).1 is in cc

-- and one that is plain passes it
passes_plain : (word : List ℕ) → IsPlainWord word → is_plain word ≡ true
passes_plain [] h = absurd h
passes_plain (byte ∷ []) h = refl
passes_plain (byte ∷ next ∷ bytes) h = at (byte == 45) refl
  where
    at : (t : Bool) → (byte == 45) ≡ t → not t ≡ true
    at true e = absurd (h ((Decides-eqb byte 45).0 e))
    at false e = refl

-- What parts give -----------------------------------------------------------------------------------------------------

-- what a part adds to what stands behind it
abbrev with_part : Part → Gathered → Gathered
with_part (File name) behind = record behind { files = name ∷ behind.files }
with_part (Given option value) behind = record behind { options = (option, value) ∷ behind.options }

-- an option with a value is one of these
the_option : (option : List ℕ) → Contains value_options option → (valued : Valued) × (option ≡ spelled valued)
the_option option (zero, h, e) = (Output, sym e)
the_option option (suc zero, h, e) = (Turns, sym e)
the_option option (suc (suc k), h, e) = absurd (omega arith)

-- a plain word is a file
kind_of_plain : (word : List ℕ) → is_plain word ≡ true → kind_of word ≡ IsFile
kind_of_plain word e = rw e

-- what is joined to `-o` is its value
kind_of_joined : (value : List ℕ) → IsJoined value → kind_of (codes "-o" ++ value) ≡ HasValue Output value
kind_of_joined [] h = absurd h
kind_of_joined (byte ∷ bytes) h = at (byte == 61) refl
  where
    at : (t : Bool) → (byte == 61) ≡ t → output_kind (byte ∷ bytes) ≡ HasValue Output (byte ∷ bytes)
    at true e = absurd (h ((Decides-eqb byte 61).0 e))
    at false e = rw e

-- `--turns` has more than one letter
turns_long : ¬ IsShort (codes "--turns")
turns_long (letter, e) = cc

-- the words of an option give its value
value_gathered : (option : Valued) (value : List ℕ) (own words : List (List ℕ)) → GivesValue (spelled option) value own
    → gathered Among (own ++ words) ≡ option_map (with_option option value) (gathered Among words)
value_gathered Output value own words (inl (e, is)) = rw (e, passes_plain value is)
value_gathered Output value own words (inr (inl e)) = rw e
value_gathered Output value own words (inr (inr (e, short, is))) = rw (e, kind_of_joined value is)
value_gathered Turns value own words (inl (e, is)) = rw (e, passes_plain value is)
value_gathered Turns value own words (inr (inl e)) = rw e
value_gathered Turns value own words (inr (inr (e, short, is))) = absurd (turns_long short)

-- the words of a part give it
part_gathered : (part : Part) (own words : List (List ℕ)) → IsPart part own
    → gathered Among (own ++ words) ≡ option_map (with_part part) (gathered Among words)
part_gathered (File name) own words (e, is) = rw (e, gathered, kind_of_plain name (passes_plain name is))
part_gathered (Given option value) own words (has, gives) =
    let t = the_option option has in
    rw t.1 (value_gathered t.0 value own words (subst (λ option. GivesValue option value own) t.1 gives))

-- parts before what is gathered
abbrev with_parts : List Part → Gathered → Gathered
with_parts parts behind = record { options = options_in parts ++ behind.options; files = files_in parts ++ behind.files }

-- a part before parts
with_more : (part : Part) (parts : List Part) (behind : Gathered) → with_part part (with_parts parts behind) ≡ with_parts (part ∷ parts) behind
with_more (File name) parts behind = refl
with_more (Given option value) parts behind = refl

-- words give their parts, before what the words behind them give
parts_gathered : (parts : List Part) (front words : List (List ℕ)) (behind : Gathered) → AreParts parts front → gathered Among words ≡ Some behind
    → gathered Among (front ++ words) ≡ Some (with_parts parts behind)
parts_gathered [] front words behind e h = rw e h
parts_gathered (part ∷ parts) front words behind (own, rest, e, is, are) h =
    rw (e, append_assoc own rest words, part_gathered part own (rest ++ words) is, parts_gathered parts rest words behind are h)
    (ap (λ found. Some found) (with_more part parts behind))

-- words behind `--` that aren't empty are files
named_gathered : (more : List (List ℕ)) → All (λ name. name ≢ []) more → gathered BehindDashes more ≡ Some (record { options = []; files = more })
named_gathered [] all = refl
named_gathered ([] ∷ more) all = absurd (All-head (λ name. name ≢ []) [] more all refl)
named_gathered ((byte ∷ bytes) ∷ more) all = rw (named_gathered more (All-tail (λ name. name ≢ []) (byte ∷ bytes) more all))

-- words give the options of their parts, and the files of their parts and those behind `--`
words_gathered : (parts : List Part) (more words : List (List ℕ)) → HasParts parts more words
    → gathered Among words ≡ Some (record { options = options_in parts; files = files_in parts ++ more })
words_gathered parts more words (inl (none, are)) =
    let all = parts_gathered parts words [] nothing are refl in
    rw none (rw (append-nil words, append-nil (options_in parts)) at all)
words_gathered parts more words (inr (front, e, are, all)) =
    let found = parts_gathered parts front (codes "--" ∷ more) (record { options = []; files = more }) are (named_gathered more all) in
    rw e (rw (append-nil (options_in parts)) at found)

-- what words give is gathered of them
gives_gathered : (options : List (List ℕ × List ℕ)) (files words : List (List ℕ)) → Gives options files words
    → gathered Among words ≡ Some (record { options = options; files = files })
gives_gathered options files words (parts, more, has, e, f) =
    words_gathered parts more words has ∙ ap₂ (λ a b. Some (record { options = a; files = b })) e f

-- as many files as a command may name pass the test
passes_enough : (files : List (List ℕ)) → AreEnough files → are_enough (length files) ≡ true
passes_enough files (some, few) =
    and_from (nat_le 1 (length files)) (nat_le (length files) most_files) (le-leb 1 (length files) some) (le-leb (length files) most_files few)

-- and files that pass it are as many
are_so_many : (files : List (List ℕ)) → are_enough (length files) ≡ true → AreEnough files
are_so_many files h =
    let t = and_parts (nat_le 1 (length files)) (nat_le (length files) most_files) h in
    (leb-true 1 (length files) t.0, leb-true (length files) most_files t.1)

-- the turns that options give
turns_read : (turns : ℕ) (options : List (List ℕ × List ℕ)) → AreTurns turns options → turns_given options ≡ Some turns
turns_read turns options (inl (none, e)) = rw (none, e)
turns_read turns options (inr (digits, one, writes)) = rw one (turns_there digits turns writes)

-- `run` of as many files as it may name, in these turns
run_enough : (turns : ℕ) (options : List (List ℕ × List ℕ)) (files : List (List ℕ)) → AreTurns turns options → AreEnough files
    → run_given options files ≡ Some (Run turns files)
run_enough turns options files are enough = rw (turns_read turns options are, passes_enough files enough)

-- `emit` of as many files as it may name, under a name that isn't empty
emit_enough : (name : List ℕ) (files : List (List ℕ)) → name ≢ [] → AreEnough files → emit_under (codes "-o") name files ≡ Some (Emit name files)
emit_enough [] files some enough = absurd (some refl)
emit_enough (byte ∷ bytes) files some enough = rw (passes_enough files enough)

-- `check` of as many files as it may name
check_enough : (files : List (List ℕ)) → AreEnough files → check_given [] files ≡ Some (Check files)
check_enough files enough = rw (passes_enough files enough)

-- the command of words that ask for it
pub command_of_reading : (words : List (List ℕ)) (command : Command) → Reads words command → command_of words ≡ Some command
command_of_reading words (Run turns files) (rest, e, enough, options, are, gives) =
    ap command_of e
    ∙ ap (λ found. option_and_then (λ found. run_given found.options found.files) found) (gives_gathered options files rest gives)
    ∙ run_enough turns options files are enough
command_of_reading words (Emit name files) (rest, e, some, enough, gives) =
    ap command_of e
    ∙ ap (λ found. option_and_then (λ found. emit_given found.options found.files) found) (gives_gathered ((codes "-o", name) ∷ []) files rest gives)
    ∙ emit_enough name files some enough
command_of_reading words (Check files) (rest, e, enough, gives) =
    ap command_of e
    ∙ ap (λ found. option_and_then (λ found. check_given found.options found.files) found) (gives_gathered [] files rest gives)
    ∙ check_enough files enough

-- The parts of words --------------------------------------------------------------------------------------------------

-- what a word of this kind is
abbrev KindMeans : Kind → List ℕ → Type 0
KindMeans IsFile word = IsPlainWord word
KindMeans (Waits option) word = word ≡ spelled option
KindMeans (HasValue option value) word = GivesValue (spelled option) value (word ∷ [])
KindMeans IsDashes word = word ≡ codes "--"
KindMeans IsOther word = Unit {0}

-- what a word is that begins with `-o`
output_means : (word rest : List ℕ) → word ≡ codes "-o" ++ rest → KindMeans (output_kind rest) word
output_means word [] e = e
output_means word (byte ∷ bytes) e = at (byte == 61) refl
  where
    at : (t : Bool) → (byte == 61) ≡ t → GivesValue (codes "-o") (cond t bytes (byte ∷ bytes)) (word ∷ [])
    at true is = inr (inl (ap (λ w. w ∷ []) (e ∙ ap (λ b. codes "-o" ++ b ∷ bytes) ((Decides-eqb byte 61).0 is))))
    at false other = inr (inr (ap (λ w. w ∷ []) e, (111, refl), λ is. let f : (byte == 61) ≡ true = (Decides-eqb byte 61).1 is in cc))

-- what a word is that begins with `--turns`
turns_means : (word rest : List ℕ) → word ≡ codes "--turns" ++ rest → KindMeans (turns_kind rest) word
turns_means word [] e = e
turns_means word (byte ∷ bytes) e = at (byte == 61) refl
  where
    at : (t : Bool) → (byte == 61) ≡ t → KindMeans (cond t (HasValue Turns bytes) IsOther) word
    at true is = inr (inl (ap (λ w. w ∷ []) (e ∙ ap (λ b. codes "--turns" ++ b ∷ bytes) ((Decides-eqb byte 61).0 is))))
    at false other = tt

-- what a word is, by its kind
kind_means : (word : List ℕ) → KindMeans (kind_of word) word
kind_means word =
    at (is_plain word) refl (bytes_eq word (codes "--")) refl (starts_with ◌==◌ word (codes "-o")) refl (starts_with ◌==◌ word (codes "--turns")) refl
  where
    at : (p : Bool) → is_plain word ≡ p → (d : Bool) → bytes_eq word (codes "--") ≡ d → (o : Bool) → starts_with ◌==◌ word (codes "-o") ≡ o
        → (s : Bool) → starts_with ◌==◌ word (codes "--turns") ≡ s
        → KindMeans (cond p IsFile (cond d IsDashes (cond o (output_kind (drop 2 word)) (cond s (turns_kind (drop 7 word)) IsOther)))) word
    at true e d f o g s h = plain word e
    at false e true f o g s h = (bytes_eq-Decides word (codes "--")).0 f
    at false e false f true g s h = output_means word (drop 2 word) ((starts_is Decides-eqb word (codes "-o") (starts_with ◌==◌ word (codes "-o")) refl).0 g)
    at false e false f false g true h =
        turns_means word (drop 7 word) ((starts_is Decides-eqb word (codes "--turns") (starts_with ◌==◌ word (codes "--turns")) refl).0 h)
    at false e false f false g false h = tt

-- a part before the parts of words
has_more : (part : Part) (own : List (List ℕ)) (parts : List Part) (more words : List (List ℕ)) → IsPart part own → HasParts parts more words
    → HasParts (part ∷ parts) more (own ++ words)
has_more part own parts more words is (inl (none, are)) = inl (none, (own, words, refl, is, are))
has_more part own parts more words is (inr (front, e, are, all)) =
    inr (own ++ front, ap (λ rest. own ++ rest) e ∙ sym (append_assoc own front (codes "--" ∷ more)), (own, front, refl, is, are), all)

-- the words of a part before words give it as well
gives_more : (part : Part) (own words : List (List ℕ)) (behind : Gathered) → IsPart part own → Gives behind.options behind.files words
    → Gives (with_part part behind).options (with_part part behind).files (own ++ words)
gives_more (File name) own words behind is (parts, more, has, e, f) =
    (File name ∷ parts, more, has_more (File name) own parts more words is has, e, ap (λ files. name ∷ files) f)
gives_more (Given option value) own words behind is (parts, more, has, e, f) =
    (Given option value ∷ parts, more, has_more (Given option value) own parts more words is has, ap (λ options. (option, value) ∷ options) e, f)

-- an option has a value
has_option : (option : Valued) → Contains value_options (spelled option)
has_option Output = (0, omega arith, refl)
has_option Turns = (1, omega arith, refl)

-- a choice of what may be none, that gives something, gives it by one of its two sides
chosen : {A : Type 0} (b : Bool) (x z : Option A) (y : A) → cond b x z ≡ Some y → ((b ≡ true) × (x ≡ Some y)) ⊎ ((b ≡ false) × (z ≡ Some y))
chosen true x z y h = inl (refl, h)
chosen false x z y h = inr (refl, h)

-- where only one side gives something, it is by that one
held : {A : Type 0} (b : Bool) (x : Option A) (y : A) → cond b x None ≡ Some y → (b ≡ true) × (x ≡ Some y)
held true x y h = (refl, h)
held false x y h = absurd (cc h)

-- what is mapped to something was something
mapped : {A B : Type 0} (f : A → B) (x : Option A) (y : B) → option_map f x ≡ Some y → (z : A) × (x ≡ Some z) × (f z ≡ y)
mapped f None y h = absurd (cc h)
mapped f (Some z) y h = (z, refl, cc)

-- where a part is gathered before words that give what is gathered of them, all words give it
more_means : (part : Part) (own words : List (List ℕ)) (found : Gathered) → IsPart part own
    → ((behind : Gathered) → gathered Among words ≡ Some behind → Gives behind.options behind.files words)
    → option_map (with_part part) (gathered Among words) ≡ Some found → Gives found.options found.files (own ++ words)
more_means part own words found is means h =
    let t = mapped (with_part part) (gathered Among words) found h in
    subst (λ found. Gives found.options found.files (own ++ words)) t.2 (gives_more part own words t.0 is (means t.0 t.1))

-- words behind `--` that aren't empty are given as files
dashes_give : (words : List (List ℕ)) (found : Gathered) → (found ≡ record { options = []; files = words }) × All (λ name. name ≢ []) words
    → Gives found.options found.files (codes "--" ∷ words)
dashes_give words found (e, all) =
    subst (λ found. Gives found.options found.files (codes "--" ∷ words)) (sym e) ([], words, inr ([], refl, refl, all), refl, refl)

-- what is gathered of words that stand at a place is what they give there
abbrev Meant : Place → List (List ℕ) → Gathered → Type 0
Meant Among words found = Gives found.options found.files words
Meant (BehindOption option) words found = Gives found.options found.files (spelled option ∷ words)
Meant BehindDashes words found = (found ≡ record { options = []; files = words }) × All (λ name. name ≢ []) words

-- words give what is gathered of them
gathered_means : (place : Place) (words : List (List ℕ)) (found : Gathered) → gathered place words ≡ Some found → Meant place words found
gathered_means Among [] found h =
    let e : nothing ≡ found = cc in
    subst (λ found. Gives found.options found.files []) e ([], [], inl (refl, refl), refl, refl)
gathered_means Among (word ∷ words) found h =
    (elim (kind_of word) as (λ kind. kind_of word ≡ kind → KindMeans kind word → Gives found.options found.files (word ∷ words)) [
      | IsFile ↦ λ e is. more_means (File word) (word ∷ []) words found (refl, is) (gathered_means Among words) (rw (e, gathered) at h)
      | Waits option ↦ λ e is. subst (λ w. Gives found.options found.files (w ∷ words)) (sym is) (gathered_means (BehindOption option) words found (rw (e, gathered) at h))
      | HasValue option value ↦ λ e is. more_means (Given (spelled option) value) (word ∷ []) words found (has_option option, is) (gathered_means Among words) (rw (e, gathered) at h)
      | IsDashes ↦ λ e is. subst (λ w. Gives found.options found.files (w ∷ words)) (sym is) (dashes_give words found (gathered_means BehindDashes words found (rw (e, gathered) at h)))
      | IsOther ↦ λ e is. let f = rw (e, gathered) at h in absurd (cc f)
    ]) refl (kind_means word)
gathered_means (BehindOption option) [] found h = absurd (cc h)
gathered_means (BehindOption option) (word ∷ words) found h =
    let t = held (is_plain word) (option_map (with_option option word) (gathered Among words)) found h in
    more_means (Given (spelled option) word) (spelled option ∷ word ∷ []) words found (has_option option, inl (refl, plain word t.0)) (gathered_means Among words) t.1
gathered_means BehindDashes [] found h = (cc, All-nil (λ name. name ≢ []))
gathered_means BehindDashes ([] ∷ words) found h = absurd (cc h)
gathered_means BehindDashes ((byte ∷ bytes) ∷ words) found h =
    let t = mapped (with_file (byte ∷ bytes)) (gathered BehindDashes words) found h in
    let means = gathered_means BehindDashes words t.0 t.1 in
    (sym t.2 ∙ ap (with_file (byte ∷ bytes)) means.0, All-cons (λ name. name ≢ []) (byte ∷ bytes) words (λ none. cc) means.1)

-- options that give turns are those of a run that has them
turns_meant : (options : List (List ℕ × List ℕ)) (turns : ℕ) → turns_given options ≡ Some turns → AreTurns turns options
turns_meant [] turns h = let e : turns ≡ default_turns = cc in inl (refl, e)
turns_meant (option ∷ []) turns h =
    let t = held (bytes_eq option.0 (codes "--turns")) (turns_of option.1) turns h in
    let is = (bytes_eq-Decides option.0 (codes "--turns")).0 t.0 in
    inr (option.1, ap (λ name. (name, option.1) ∷ []) is, turns_found option.1 turns t.1)
turns_meant (option ∷ other ∷ options) turns h = absurd (cc h)

-- words behind `run` that give as many files as it may name, and the options of a run, are read so
run_read : (options : List (List ℕ × List ℕ)) (files words : List (List ℕ)) (command : Command) → Gives options files words
    → run_given options files ≡ Some command → Reads (codes "run" ∷ words) command
run_read options files words command gives h =
    option_and_then_some (λ turns. cond (are_enough (length files)) (Some (Run turns files)) None) (turns_given options) command h
    (λ turns given e.
    let t = cond_some (are_enough (length files)) (Run turns files) command e in
    subst (λ c. Reads (codes "run" ∷ words) c) t.1 (words, refl, are_so_many files t.0, options, turns_meant options turns given, gives))

-- words behind `emit` that give these files and this option are read so
under_read : (option name : List ℕ) (files words : List (List ℕ)) (command : Command) → Gives ((option, name) ∷ []) files words
    → emit_under option name files ≡ Some command → Reads (codes "emit" ∷ words) command
under_read option [] files words command gives h = absurd (cc h)
under_read option (byte ∷ bytes) files words command gives h =
    let t = cond_some (bytes_eq option (codes "-o") && are_enough (length files)) (Emit (byte ∷ bytes) files) command h in
    let both = and_parts (bytes_eq option (codes "-o")) (are_enough (length files)) t.0 in
    let is = (bytes_eq-Decides option (codes "-o")).0 both.0 in
    subst (λ c. Reads (codes "emit" ∷ words) c) t.1
    (words, refl, (λ none. absurd (cc none)), are_so_many files both.1, subst (λ o. Gives ((o, byte ∷ bytes) ∷ []) files words) is gives)

-- words behind `emit` that give as many files as it may name and one option are read so
emit_read : (options : List (List ℕ × List ℕ)) (files words : List (List ℕ)) (command : Command) → Gives options files words
    → emit_given options files ≡ Some command → Reads (codes "emit" ∷ words) command
emit_read [] files words command gives h = absurd (cc h)
emit_read (option ∷ []) files words command gives h = under_read option.0 option.1 files words command gives h
emit_read (option ∷ other ∷ options) files words command gives h = absurd (cc h)

-- words behind `check` that give as many files as it may name and no option are read so
check_read : (options : List (List ℕ × List ℕ)) (files words : List (List ℕ)) (command : Command) → Gives options files words
    → check_given options files ≡ Some command → Reads (codes "check" ∷ words) command
check_read [] files words command gives h =
    let t = cond_some (are_enough (length files)) (Check files) command h in
    subst (λ c. Reads (codes "check" ∷ words) c) t.1 (words, refl, are_so_many files t.0, gives)
check_read (option ∷ options) files words command gives h = absurd (cc h)

-- words that have a command are read so
pub reading_of_command : (words : List (List ℕ)) (command : Command) → command_of words ≡ Some command → Reads words command
reading_of_command [] command h = absurd (cc h)
reading_of_command (word ∷ words) command h =
    elim (chosen (bytes_eq word (codes "run")) (run_words words) (cond (bytes_eq word (codes "emit")) (emit_words words) (cond (bytes_eq word (codes "check")) (check_words words) None)) command h) [
      | inl (is, e) ↦
          subst (λ w. Reads (w ∷ words) command) (sym ((bytes_eq-Decides word (codes "run")).0 is))
          (option_and_then_some (λ found. run_given found.options found.files) (gathered Among words) command e
          (λ found g. run_read found.options found.files words command (gathered_means Among words found g)))
      | inr (_, e) ↦ behind_run e
    ]
  where
    behind_run : cond (bytes_eq word (codes "emit")) (emit_words words) (cond (bytes_eq word (codes "check")) (check_words words) None) ≡ Some command → Reads (word ∷ words) command
    behind_run e =
        elim (chosen (bytes_eq word (codes "emit")) (emit_words words) (cond (bytes_eq word (codes "check")) (check_words words) None) command e) [
          | inl (is, e) ↦
              subst (λ w. Reads (w ∷ words) command) (sym ((bytes_eq-Decides word (codes "emit")).0 is))
              (option_and_then_some (λ found. emit_given found.options found.files) (gathered Among words) command e
              (λ found g. emit_read found.options found.files words command (gathered_means Among words found g)))
          | inr (_, e) ↦
              let t = held (bytes_eq word (codes "check")) (check_words words) command e in
              subst (λ w. Reads (w ∷ words) command) (sym ((bytes_eq-Decides word (codes "check")).0 t.0))
              (option_and_then_some (λ found. check_given found.options found.files) (gathered Among words) command t.1
              (λ found g. check_read found.options found.files words command (gathered_means Among words found g)))
        ]

-- words with no command have no reading
pub no_reading : (words : List (List ℕ)) → command_of words ≡ None → HasNoReading words
no_reading words none command reads = let some : command_of words ≡ Some command = command_of_reading words command reads in cc

-- and words with no reading have no command
pub no_command : (words : List (List ℕ)) → HasNoReading words → command_of words ≡ None
no_command words h = at (command_of words) refl
  where
    at : (found : Option Command) → command_of words ≡ found → command_of words ≡ None
    at None e = e
    at (Some command) e = absurd (h command (reading_of_command words command e))

-- nor have words whose first one is none
pub begins_none : (words : List (List ℕ)) → BeginsNoCommand words → command_of words ≡ None
begins_none [] begins = refl
begins_none (word ∷ words) begins = at (bytes_eq word (codes "run")) refl (bytes_eq word (codes "emit")) refl (bytes_eq word (codes "check")) refl
  where
    at : (a : Bool) → bytes_eq word (codes "run") ≡ a → (b : Bool) → bytes_eq word (codes "emit") ≡ b → (c : Bool) → bytes_eq word (codes "check") ≡ c
        → cond a (run_words words) (cond b (emit_words words) (cond c (check_words words) None)) ≡ None
    at true e b f c g = absurd (begins.0 ((bytes_eq-Decides word (codes "run")).0 e))
    at false e true f c g = absurd (begins.1 ((bytes_eq-Decides word (codes "emit")).0 f))
    at false e false f true g = absurd (begins.2 ((bytes_eq-Decides word (codes "check")).0 g))
    at false e false f false g = refl

-- What the code finds -------------------------------------------------------------------------------------------------

-- where it finds the command of the words, that is the one that they ask for, and where it finds none they have no reading
pub read_exactly : {E : Type 0} (words : List (List ℕ)) (result : Result (Option declared.Command) E)
    → IfOk result (λ found. command_of words ≡ option_map command_seen found)
    → IfOk result (λ found. MatchOption found (HasNoReading words) (λ command. Reads words (command_seen command)))
read_exactly words (Ok None) e = no_reading words e
read_exactly words (Ok (Some command)) e = reading_of_command words (command_seen command) e
read_exactly words (Err error) e = e
