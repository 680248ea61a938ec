-- A run doesn't look at the lines of functions, and whether the rules are kept doesn't either.
use Rattle.std.proofs.Common.{◌≡◌, ◌≢◌, ℕ, zero, suc, ◌+◌, List, [], ◌∷◌, ◌++◌, Bool, Option, Some, None, refl, sym, ap, ap₂, ◌∙◌, subst, max, reverse, length, slice_get, codes, if◌then◌else◌, position, inl, inr, Contains, count_by, cond, fold}
use Rattle.std.specs.Prelude.{◌⊎◌, ℤ, not, ◌&&◌, nat_lt}
use mathlib.Core.List.{reverse_aux}
use Rattle.std.specs.List.{list_any, prefix_len}
use Rattle.std.specs.Str.{bytes_eq}
use Rattle.sl_run.specs.Run.{Act, choose, ◌>>◌, ◌>>=◌, calls, keep_within, turn_within}
use Rattle.sl_run.specs.Outcome.{whole_run}
use Rattle.c_tree.specs.declared.tree.CFile.{CFile}
use Rattle.c_tree.specs.declared.tree.CFun.{CFun}
use Rattle.c_tree.specs.declared.tree.CType.{CType}
use Rattle.c_tree.specs.declared.tree.CType.TheVariants.{Void}
use Rattle.c_tree.specs.Parts.{Calls, actions_in}
use Rattle.c_tree.specs.Scope.{scope_of}
use Rattle.c_tree.specs.Rules.{var_names, fun_names, NamesClash, IsDeclared, ArgumentsMisfit, type_of_place, AreAlike, IsStart, BreaksPrototypes, BreaksInside, BreaksOutside, Breaks, KeepsRules}
use Rattle.c_tree.proofs.Lists.{in_none, first_in, in_same, of_one, not_empty}
use Rattle.std.proofs.lemmas.List.Elements.{Contains-append_cases, Contains-append_right}
use Rattle.c_tree.specs.Bytes.{frame_bytes, called, chain_bytes, charge}
use Rattle.c_tree.specs.Memory.{Tree, Memory, live}
use Rattle.c_tree.specs.Meaning.{Callees, with_some, begin_inline, begin, body, in_frame, inline_callees, number_of, numbered_call, callees, functions, charge_of, enter, run_callees, exit_value, leave, begin_start, program, first_memory, c_run}

-- the same function on another line
abbrev pub on_line : ℕ → CFun → CFun
on_line line function = record function { line = line }

-- the same functions, on lines of their own
abbrev pub SameButLines : List CFun → List CFun → Type 0
SameButLines [] [] = Unit {0}
SameButLines (f ∷ fs) (g ∷ gs) = (g ≡ on_line g.line f) × SameButLines fs gs
SameButLines [] (g ∷ gs) = ⊥
SameButLines (f ∷ fs) [] = ⊥

-- in front of others, the other way round
same_onto : (fs gs xs ys : List CFun) → SameButLines fs gs → SameButLines xs ys → SameButLines (reverse_aux fs xs) (reverse_aux gs ys)
same_onto [] [] xs ys h k = k
same_onto (f ∷ fs) (g ∷ gs) xs ys (e, h) k = same_onto fs gs (f ∷ xs) (g ∷ ys) h (e, k)
same_onto [] (g ∷ gs) xs ys h k = absurd h
same_onto (f ∷ fs) [] xs ys h k = absurd h

same_reverse : (fs gs : List CFun) → SameButLines fs gs → SameButLines (reverse fs) (reverse gs)
same_reverse fs gs h = same_onto fs gs [] [] h tt

-- the bytes of chains
same_chain : (fs gs : List CFun) → SameButLines fs gs → (names : List (List ℕ)) → chain_bytes gs names ≡ chain_bytes fs names
same_chain [] [] h names = refl
same_chain (f ∷ fs) (g ∷ gs) (e, h) names =
    ap (λ g. chain_bytes (g ∷ gs) names) e
    ∙ ap₂ (λ below others. if f.inline && list_any (bytes_eq f.name) names then max (frame_bytes f + below) others else others) (same_chain fs gs h (called f)) (same_chain fs gs h names)
same_chain [] (g ∷ gs) h names = absurd h
same_chain (f ∷ fs) [] h names = absurd h

-- the place of the first function with a name
same_place : (p : CFun → Bool) → ((f : CFun) (line : ℕ) → p (on_line line f) ≡ p f) → (fs gs : List CFun) → SameButLines fs gs → position p gs ≡ position p fs
same_place p h fs gs k = ap₂ (λ n m. if nat_lt n m then Some n else None) (same_front fs gs k) (same_length fs gs k)
  where
    same_front : (fs gs : List CFun) → SameButLines fs gs → prefix_len (λ f. not (p f)) gs ≡ prefix_len (λ f. not (p f)) fs
    same_front [] [] k = refl
    same_front (f ∷ fs) (g ∷ gs) (e, k) =
        ap (λ so. if not so then 1 + prefix_len (λ f. not (p f)) gs else 0) (ap p e ∙ h f g.line) ∙ ap (λ n. if not (p f) then 1 + n else 0) (same_front fs gs k)
    same_front [] (g ∷ gs) k = absurd k
    same_front (f ∷ fs) [] k = absurd k

    same_length : (fs gs : List CFun) → SameButLines fs gs → length gs ≡ length fs
    same_length [] [] k = refl
    same_length (f ∷ fs) (g ∷ gs) (e, k) = ap suc (same_length fs gs k)
    same_length [] (g ∷ gs) k = absurd k
    same_length (f ∷ fs) [] k = absurd k

-- a function by its number: there is none, or one on a line of its own
abbrev FoundSo : Option CFun → Option CFun → Type 0
FoundSo None None = Unit {0}
FoundSo (Some f) (Some g) = g ≡ on_line g.line f
FoundSo None (Some g) = ⊥
FoundSo (Some f) None = ⊥

same_at : (fs gs : List CFun) → SameButLines fs gs → (number : ℕ) → FoundSo (slice_get fs number) (slice_get gs number)
same_at [] [] h number = tt
same_at (f ∷ fs) (g ∷ gs) (e, h) zero = e
same_at (f ∷ fs) (g ∷ gs) (e, h) (suc number) = same_at fs gs h number
same_at [] (g ∷ gs) h number = absurd h
same_at (f ∷ fs) [] h number = absurd h

-- their names
same_names : (fs gs : List CFun) → SameButLines fs gs → fun_names gs ≡ fun_names fs
same_names [] [] h = refl
same_names (f ∷ fs) (g ∷ gs) (e, h) = ap₂ (λ (name : List ℕ) names. name ∷ names) (ap (λ g. g.name) e) (same_names fs gs h)
same_names [] (g ∷ gs) h = absurd h
same_names (f ∷ fs) [] h = absurd h

-- one that is among the second is among the first, on a line of its own
in_first : (fs gs : List CFun) → SameButLines fs gs → (z : CFun) → Contains gs z → (f : CFun) × Contains fs f × (z ≡ on_line z.line f)
in_first [] [] h z among = absurd (in_none z among)
in_first (f ∷ fs) (g ∷ gs) (e, h) z among = at (in_first fs gs h z) (Contains-append_cases (g ∷ []) gs z among)
  where
    at : (Contains gs z → (other : CFun) × Contains fs other × (z ≡ on_line z.line other)) → Contains (g ∷ []) z ⊎ Contains gs z → (other : CFun) × Contains (f ∷ fs) other × (z ≡ on_line z.line other)
    at behind (inl one) = of_one (λ z. (other : CFun) × Contains (f ∷ fs) other × (z ≡ on_line z.line other)) g z (f, first_in f fs, e) one
    at behind (inr more) = let found = behind more in (found.0, Contains-append_right (f ∷ []) fs found.0 found.1, found.2)
in_first [] (g ∷ gs) h z among = absurd h
in_first (f ∷ fs) [] h z among = absurd h

-- and the other way round
in_second : (fs gs : List CFun) → SameButLines fs gs → (z : CFun) → Contains fs z → (g : CFun) × Contains gs g × (g ≡ on_line g.line z)
in_second [] [] h z among = absurd (in_none z among)
in_second (f ∷ fs) (g ∷ gs) (e, h) z among = at (in_second fs gs h z) (Contains-append_cases (f ∷ []) fs z among)
  where
    at : (Contains fs z → (other : CFun) × Contains gs other × (other ≡ on_line other.line z)) → Contains (f ∷ []) z ⊎ Contains fs z → (other : CFun) × Contains (g ∷ gs) other × (other ≡ on_line other.line z)
    at behind (inl one) = of_one (λ z. (other : CFun) × Contains (g ∷ gs) other × (other ≡ on_line other.line z)) f z (g, first_in g gs, e) one
    at behind (inr more) = let found = behind more in (found.0, Contains-append_right (g ∷ []) gs found.0 found.1, found.2)
in_second [] (g ∷ gs) h z among = absurd h
in_second (f ∷ fs) [] h z among = absurd h

-- the first functions cut where the second are
abbrev CutSo : List CFun → List CFun → CFun → Type 0
CutSo fs before' g = (before : List CFun) × (f : CFun) × (behind : List CFun) × (fs ≡ before ++ f ∷ behind) × SameButLines before before' × (g ≡ on_line g.line f)

same_cut : (fs gs : List CFun) → SameButLines fs gs → (before' behind' : List CFun) (g : CFun) → gs ≡ before' ++ g ∷ behind' → CutSo fs before' g
same_cut [] [] h before' behind' g e = absurd (not_empty g before' behind' e)
same_cut (f ∷ fs) (first ∷ gs) (e, h) [] behind' g is = let same : first ≡ g = cc in ([], f, fs, refl, tt, subst (λ g. g ≡ on_line g.line f) same e)
same_cut (f ∷ fs) (first ∷ gs) (e, h) (second ∷ before') behind' g is =
    let same : first ≡ second = cc in
    let rest : gs ≡ before' ++ g ∷ behind' = cc in
    let cut = same_cut fs gs h before' behind' g rest in
    (f ∷ cut.0, cut.1, cut.2, ap (λ fs. f ∷ fs) cut.3, (subst (λ g. g ≡ on_line g.line f) same e, cut.4), cut.5)
same_cut [] (g ∷ gs) h before' behind' g' e = absurd h
same_cut (f ∷ fs) [] h before' behind' g e = absurd h

-- how many have a name
same_counted : (p : CFun → Bool) → ((f : CFun) (line : ℕ) → p (on_line line f) ≡ p f) → (fs gs : List CFun) → SameButLines fs gs → (n : ℕ) → fold (λ m x. m + cond (p x) 1 0) n gs ≡ fold (λ m x. m + cond (p x) 1 0) n fs
same_counted p k [] [] h n = refl
same_counted p k (f ∷ fs) (g ∷ gs) (e, h) n = ap (λ (so : Bool). fold (λ m x. m + cond (p x) 1 0) (n + cond so 1 0) gs) (ap p e ∙ k f g.line) ∙ same_counted p k fs gs h (n + cond (p f) 1 0)
same_counted p k [] (g ∷ gs) h n = absurd h
same_counted p k (f ∷ fs) [] h n = absurd h

same_count : (p : CFun → Bool) → ((f : CFun) (line : ℕ) → p (on_line line f) ≡ p f) → (fs gs : List CFun) → SameButLines fs gs → count_by p gs ≡ count_by p fs
same_count p k fs gs h = same_counted p k fs gs h 0

module _ (file : CFile) (protos others : List CFun) (same : SameButLines file.functions others) where
  abbrev other : CFile
  other = record file { protos = protos; functions = others }

  same_charge : (f : CFun) (line : ℕ) → charge other (on_line line f) ≡ charge file f
  same_charge f line = ap (λ below. frame_bytes f + below) (same_chain (reverse file.functions) (reverse others) (same_reverse file.functions others same) (called f))

  same_number : (name : List ℕ) → number_of other name ≡ number_of file name
  same_number name = same_place (λ function. not function.inline && bytes_eq function.name name) (λ f line. refl) file.functions others same

  same_inline : (fs gs : List CFun) → SameButLines fs gs → (name : List ℕ) (args : List Tree) → inline_callees other gs name args ≡ inline_callees file fs name args
  same_inline [] [] h name args = refl
  same_inline (f ∷ fs) (g ∷ gs) (e, h) name args =
      let deeper : inline_callees other gs ≡ inline_callees file fs = λ i name args. same_inline fs gs h name args i in
      ap (λ g. inline_callees other (g ∷ gs) name args) e
      ∙ ap (λ (deeper : Callees). choose (f.inline && bytes_eq f.name name) (begin_inline f args >> body file f deeper) (deeper name args)) deeper
  same_inline [] (g ∷ gs) h name args = absurd h
  same_inline (f ∷ fs) [] h name args = absurd h

  same_callees : (call : ℕ → List Tree → Act Memory (Option ℤ)) → callees other call ≡ callees file call
  same_callees call = λ i name args. (ap (λ number. numbered_call other call name number args) (same_number name) ∙ at name args (number_of file name)) i
    where
      at : (name : List ℕ) (args : List Tree) (number : Option ℕ) → numbered_call other call name number args ≡ numbered_call file call name number args
      at name args None = same_inline (reverse file.functions) (reverse others) (same_reverse file.functions others same) name args
      at name args (Some number) = refl

  -- a function that was found does the same
  same_found : {A : Type 0} (go go' : CFun → Act Memory A) → ((f : CFun) (line : ℕ) → go' (on_line line f) ≡ go f) → (found found' : Option CFun) → FoundSo found found' → with_some found' go' ≡ with_some found go
  same_found go go' h None None e = refl
  same_found go go' h (Some f) (Some g) e = ap go' e ∙ h f g.line
  same_found go go' h None (Some g) e = absurd e
  same_found go go' h (Some f) None e = absurd e

  same_functions : functions other ≡ functions file
  same_functions = λ i call number args. same_found
      (λ f. begin number (charge file f) f args >> body file f (callees file call))
      (λ f. begin number (charge other f) f args >> body other f (callees other call))
      (λ f line. ap₂ (λ bytes (call : Callees). begin number bytes f args >> body file f call) (same_charge f line) (same_callees call))
      (slice_get file.functions number) (slice_get others number) (same_at file.functions others same number) i

  same_enter : (limit : Option ℕ) → enter other limit ≡ enter file limit
  same_enter limit = λ i number args t memory. turn_within limit (live memory + at (slice_get file.functions number) (slice_get others number) (same_at file.functions others same number) i) t memory
    where
      at : (found found' : Option CFun) → FoundSo found found' → charge_of other found' ≡ charge_of file found
      at None None e = refl
      at (Some f) (Some g) e = ap (charge other) e ∙ same_charge f g.line
      at None (Some g) e = absurd e
      at (Some f) None e = absurd e

  same_run_callees : (limit : Option ℕ) → run_callees other limit ≡ run_callees file limit
  same_run_callees limit = ap₂ (λ enter (bodies : (ℕ → List Tree → Act Memory (Option ℤ)) → ℕ → List Tree → Act Memory (Option ℤ)). callees other (calls enter bodies)) (same_enter limit) same_functions ∙ same_callees (calls (enter file limit) (functions file))

  same_program : (limit : Option ℕ) → program other limit ≡ program file limit
  same_program limit =
      ap (λ number. with_some number (λ number. with_some (slice_get others number) (λ f. begin_start other limit number f >> (in_frame other f (run_callees other limit) >>= exit_value >>= leave)))) (same_number (codes "sl_main"))
      ∙ ap (with_some (number_of file (codes "sl_main"))) (λ i number. same_found
      (λ f. begin_start file limit number f >> (in_frame file f (run_callees file limit) >>= exit_value >>= leave))
      (λ f. begin_start other limit number f >> (in_frame other f (run_callees other limit) >>= exit_value >>= leave))
      (λ f line. ap₂ (λ bytes (call : Callees). keep_within limit bytes >> begin number bytes f [] >> (in_frame file f call >>= exit_value >>= leave)) (same_charge f line) (same_run_callees limit))
      (slice_get file.functions number) (slice_get others number) (same_at file.functions others same number) i)

  -- the runs are the same
  pub same_c_run : (limit : Option ℕ) (input : List ℕ) (turns : ℕ) → c_run other limit input turns ≡ c_run file limit input turns
  unfolding c_run
  same_c_run limit input turns = ap (λ act. whole_run act (first_memory file) input turns) (same_program limit)

  -- Rules
  module _ (same_protos : SameButLines file.protos protos) where
    still_declared : (before before' : List CFun) → SameButLines before before' → (f : CFun) (line : ℕ) (name : List ℕ) → IsDeclared file before f name → IsDeclared other before' (on_line line f) name
    still_declared before before' h f line name (inl among) = inl (in_same (same_names file.protos protos same_protos) among)
    still_declared before before' h f line name (inr (inl is)) = inr (inl is)
    still_declared before before' h f line name (inr (inr among)) = inr (inr (in_same (same_names before before' h) among))

    -- what a function breaks
    breaks_inside : (before before' : List CFun) → SameButLines before before' → (f : CFun) (line rule : ℕ) → BreaksInside other before' (on_line line f) rule → BreaksInside file before f rule
    breaks_inside before before' h f line rule (inl names) = inl names
    breaks_inside before before' h f line rule (inr (inl (is, inl (name, called_so, inl unknown)))) = inr (inl (is, inl (name, called_so, inl (λ known. unknown (still_declared before before' h f line name known)))))
    breaks_inside before before' h f line rule (inr (inl (is, inl (name, called_so, inr hidden)))) = inr (inl (is, inl (name, called_so, inr hidden)))
    breaks_inside before before' h f line rule (inr (inl (is, inr variables))) = inr (inl (is, inr variables))
    breaks_inside before before' h f line rule (inr (inr (inl operands))) = inr (inr (inl operands))
    breaks_inside before before' h f line rule (inr (inr (inr (inl values)))) = inr (inr (inr (inl values)))
    breaks_inside before before' h f line rule (inr (inr (inr (inr (inl (is, (callee, target, args, (among, called_so), misfit))))))) =
        let found = in_first file.functions others same callee among in
        inr (inr (inr (inr (inl (is, (found.0, target, args, (found.1, subst (λ callee. Contains (actions_in f.body) (Calls target callee.name args)) found.2 called_so), subst (λ callee. ArgumentsMisfit (scope_of file f) args callee.params) found.2 misfit))))))
    breaks_inside before before' h f line rule (inr (inr (inr (inr (inr (inl (is, (callee, place, args, (among, called_so), misfit)))))))) =
        let found = in_first file.functions others same callee among in
        inr (inr (inr (inr (inr (inl (is, (found.0, place, args, (found.1, subst (λ callee. Contains (actions_in f.body) (Calls (Some place) callee.name args)) found.2 called_so), subst (λ callee. (callee.result ≡ Void) ⊎ ((kind : CType) × (type_of_place (scope_of file f) place ≡ Some kind) × (kind ≢ callee.result))) found.2 misfit)))))))
    breaks_inside before before' h f line rule (inr (inr (inr (inr (inr (inr (inl conditions))))))) = inr (inr (inr (inr (inr (inr (inl conditions))))))
    breaks_inside before before' h f line rule (inr (inr (inr (inr (inr (inr (inr (inl (is, (inline, inl loops)))))))))) = inr (inr (inr (inr (inr (inr (inr (inl (is, (inline, inl loops)))))))))
    breaks_inside before before' h f line rule (inr (inr (inr (inr (inr (inr (inr (inl (is, (inline, inr (name, called_so, none))))))))))) =
        inr (inr (inr (inr (inr (inr (inr (inl (
          is,
          (
            inline,
            inr (
              name,
              called_so,
              λ callee among is_inline same_name.
                  let found = in_second before before' h callee among in
                  none found.0 found.1 (ap (λ g. g.inline) found.2 ∙ is_inline) (ap (λ g. g.name) found.2 ∙ same_name),
            ),
          ),
        ))))))))
    breaks_inside before before' h f line rule (inr (inr (inr (inr (inr (inr (inr (inr (inl counts))))))))) = inr (inr (inr (inr (inr (inr (inr (inr (inl counts))))))))
    breaks_inside before before' h f line rule (inr (inr (inr (inr (inr (inr (inr (inr (inr ends))))))))) = inr (inr (inr (inr (inr (inr (inr (inr (inr ends))))))))

    -- prototypes and functions
    alike_still : (proto function proto' function' : CFun) → proto' ≡ on_line proto'.line proto → function' ≡ on_line function'.line function → AreAlike proto' function' → AreAlike proto function
    alike_still proto function proto' function' e k alike = record {
      name = sym (ap (λ f. f.name) e) ∙ (alike.name ∙ ap (λ f. f.name) k);
      result = sym (ap (λ f. f.result) e) ∙ (alike.result ∙ ap (λ f. f.result) k);
      params = sym (ap (λ f. f.params) e) ∙ (alike.params ∙ ap (λ f. f.params) k);
    }

    alike_then : (proto function proto' function' : CFun) → proto' ≡ on_line proto'.line proto → function' ≡ on_line function'.line function → AreAlike proto function → AreAlike proto' function'
    alike_then proto function proto' function' e k alike = record {
      name = ap (λ f. f.name) e ∙ (alike.name ∙ sym (ap (λ f. f.name) k));
      result = ap (λ f. f.result) e ∙ (alike.result ∙ sym (ap (λ f. f.result) k));
      params = ap (λ f. f.params) e ∙ (alike.params ∙ sym (ap (λ f. f.params) k));
    }

    breaks_prototypes : BreaksPrototypes other → BreaksPrototypes file
    breaks_prototypes (inl (function, among, called_so, other_than_one)) =
        let found = in_first file.functions others same function among in
        inl (
          found.0,
          found.1,
          sym (ap (λ f. f.inline) found.2) ∙ called_so,
          λ one. other_than_one
              (same_count (λ proto. bytes_eq proto.name function.name) (λ f line. refl) file.protos protos same_protos ∙ (ap (λ f. count_by (λ (proto : CFun). bytes_eq proto.name f.name) file.protos) found.2 ∙ one)),
        )
    breaks_prototypes (inr (inl (proto, among, none))) =
        let found = in_first file.protos protos same_protos proto among in
        inr (inl (
          found.0,
          found.1,
          λ function in_file called_so alike.
              let there = in_second file.functions others same function in_file in
              none there.0 there.1 (ap (λ f. f.inline) there.2 ∙ called_so) (alike_then found.0 function proto there.0 found.2 there.2 alike),
        ))
    breaks_prototypes (inr (inr none)) = inr (inr (λ function in_file start.
        let there = in_second file.functions others same function in_file in
        none there.0 there.1 (subst IsStart (sym there.2) (record { name = start.name; called = start.called; result = start.result; params = start.params }))))

    breaks_outside : (rule : ℕ) → BreaksOutside other rule → BreaksOutside file rule
    breaks_outside rule (inl (is, inl structs)) = inl (is, inl structs)
    breaks_outside rule (inl (is, inr (inl clash))) = inl (is, inr (inl (subst (λ names. NamesClash (var_names file.globals ++ names)) (same_names file.functions others same) clash)))
    breaks_outside rule (inl (is, inr (inr members))) = inl (is, inr (inr members))
    breaks_outside rule (inr (inl sizes)) = inr (inl sizes)
    breaks_outside rule (inr (inr (is, protos))) = inr (inr (is, breaks_prototypes protos))

    -- where the rules are kept, they are on other lines
    pub same_keeps : KeepsRules file → KeepsRules other
    unfolding Breaks
    same_keeps keeps rule line (inl (first, outside)) = keeps rule line (inl (first, breaks_outside rule outside))
    same_keeps keeps rule line (inr (before', g, (behind', cut), is, inside)) =
        let found = same_cut file.functions others same before' behind' g cut in
        let f = found.1 in
        keeps rule f.line (inr (found.0, f, (found.2, found.3), refl, breaks_inside found.0 before' found.4 f g.line rule (subst (λ g. BreaksInside other before' g rule) found.5 inside)))
