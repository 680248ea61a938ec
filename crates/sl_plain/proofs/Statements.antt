-- What the statements of a plain program do is what their core does, and they are never stuck.
use Rattle.std.proofs.Common.{◌≡◌, ℕ, suc, ◌+◌, ◌<◌, ◌≤◌, nat_le, List, [], ◌∷◌, ◌++◌, length, max, map, Bool, true, false, ◌&&◌, Option, Some, None, option_and_then, is_some, bytes_eq, codes, slice_get, refl, sym, subst, ap, ◌∙◌, arith}
use Rattle.std.specs.List.{IsDistinct, AllByRecursion, list_all}
use Rattle.sl_run.specs.Run.{Act, pure, over, ◌>>=◌, choose}
use Rattle.sl_run.specs.Run as run
use Rattle.sl_run.specs.Laws.{Steady}
use Rattle.sl_core.specs.declared.tree.Core.{Core}
use Rattle.sl_core.specs.declared.tree.CoreType.TheVariants.{Int}
use Rattle.sl_core.specs.declared.tree.CoreStmt.{CoreStmt}
use Rattle.sl_core.specs.declared.tree.CoreStmt.TheVariants as core
use Rattle.sl_core.specs.Memory.{Frame}
use Rattle.sl_core.specs.Meaning.{Callees}
use Rattle.sl_plain.specs.declared.program.Kind.{Kind}
use Rattle.sl_plain.specs.declared.program.Kind.TheVariants as kind
use Rattle.sl_plain.specs.declared.program.Atom.{Atom}
use Rattle.sl_plain.specs.declared.program.Atom.TheVariants.{Name, Number, Truth}
use Rattle.sl_plain.specs.declared.program.Right.{Right}
use Rattle.sl_plain.specs.declared.program.Condition.TheVariants as condition
use Rattle.sl_plain.specs.declared.program.Stmt.{Stmt, Stmt-F, ind-Stmt, map-Stmt, roll-Stmt}
use Rattle.sl_plain.specs.declared.program.Stmt.TheOpen as stmt
use Rattle.sl_plain.specs.Numbers.{z_type}
use Rattle.sl_plain.specs.Names.{is_text, is_text_byte}
use Rattle.sl_plain.specs.Program.{Part, AnAtom, ARight, ACondition, AText, IsAtom, IsPart, Declared, declaration, name_of, counted, deepest, kind_of_atom, has_kind, are_numbers, right_fits, condition_fits, assigned_fits, Scoped, where_so, scoped_in_order, block_fits, scoped_step, scoped, joined, declared_step, declared_in, parts_step, parts_in}
use Rattle.sl_plain.specs.Means.{Variables, with_value, with_number, right_value, condition_value, printed_value, print_line, store, while_holds, for_numbers, count_until, assert_halt, halt_halt, meaning_step, meaning}
use Rattle.sl_plain.specs.Means as means
use Rattle.sl_plain.specs.Lowered.{path_of, atom_expr, condition_expr, store_right, unnamed, leave_unless, for_of, put_text, print_of, Lowered, lowered_step, lowered, unnamed_step, unnamed_in}
use Rattle.sl_plain.specs.Lowered as lower
use Rattle.sl_plain.specs.Reach.{right_lines, lines_step, lines_in}
use Rattle.sl_core.proofs.Slots.{some_same}
use Rattle.sl_plain.proofs.Layers.{scoped_layer, declared_layer, parts_layer, lines_layer, meaning_layer, lowered_layer}
use Rattle.sl_plain.proofs.Unnamed.{unnamed_layer, deepest_first, deepest_others}
use Rattle.sl_plain.proofs.Names.{declares, either, both, same_bytes, KnownIn, all_before, all_behind, all_append, all_so, all_pass}
use Rattle.sl_plain.proofs.Held.{Within, Extends, ready_stored, ready_declared, within_declared}
use Rattle.sl_plain.proofs.Values.{kind_is, entry_of}
use Rattle.sl_plain.proofs.Alike.{go_less}
use Rattle.sl_plain.proofs.Parts.{OnNext, do_all, Goes, goes_then, stored_goes, text_goes, printed_goes, chosen_goes, nothing_goes, halt_goes}
use Rattle.sl_plain.proofs.Looping.{while_goes, for_goes}
use Rattle.sl_plain.proofs.Keeping.{IsKept}

-- what is found where one thing and then another is
pub then_found : {A B : Type 0} (f : A → Option B) (given : Option A) (y : B) → option_and_then f given ≡ Some y → (x : A) × (given ≡ Some x) × (f x ≡ Some y)
then_found f None y h = grind arith
then_found f (Some x) y h = (x, refl, h)

-- what is there
pub there : {A : Type 0} (given : Option A) → is_some given ≡ true → (x : A) × (given ≡ Some x)
there None h = grind arith
there (Some x) h = (x, refl)

-- where something is given only if a test holds, the test holds
where_holds : (so : Bool) (scope scope' : List Declared) → where_so so scope ≡ Some scope' → (so ≡ true) × (scope ≡ scope')
where_holds true scope scope' h = (refl, some_same scope scope' h)
where_holds false scope scope' h = grind arith

-- an atom has the same type among all names
kind_within : (names scope : List Declared) → Within names scope → (atom : Atom) (type : Kind) → kind_of_atom scope atom ≡ Some type → kind_of_atom names atom ≡ Some type
kind_within names scope within (Name name) type h =
    let found = entry_of type (declaration scope name) h
    in rw (within name found.0 found.1) (ap Some found.2)
kind_within names scope within (Number number) type h = h
kind_within names scope within (Truth so) type h = h

-- the bytes of a text, and of one with a line feed behind it
text_bytes : (text : List ℕ) → is_text text ≡ true → AllByRecursion (λ byte. byte ≤ 255) (text ++ 10 ∷ [])
text_bytes text is =
    let bytes = (both (nat_le (length text) 100) (list_all is_text_byte text) is).1
    in all_append (λ byte. byte ≤ 255) text (10 ∷ []) (all_so (λ byte. is_text_byte byte ≡ true) (λ byte. byte ≤ 255) small text (all_pass is_text_byte text bytes)) (omega arith, tt)
  where
    small : (byte : ℕ) → is_text_byte byte ≡ true → byte ≤ 255
    small byte h = grind (arith, h)

-- a declaration that fits what is assigned to it
assigned : (scope : List Declared) (given : Option Declared) (right : Right) → assigned_fits scope given right ≡ true → (entry : Declared) × (given ≡ Some entry) × (right_fits scope entry.type right ≡ true)
assigned scope None right h = grind arith
assigned scope (Some entry) right h = (entry, refl, (both entry.is_var (right_fits scope entry.type right) h).1)

module _ (target : Core) (typed : slice_get target.types 0 ≡ Some (Int z_type)) (names : List Declared) (distinct : IsDistinct bytes_eq (map name_of names)) (below : List Frame) (rooms : ℕ) (call : Callees) (calm : (function : ℕ) → Steady (call function)) where
  -- a part of a program and its core do the same
  abbrev Same : List Declared → List Declared → ℕ → Act Variables (Unit {0}) → List CoreStmt → Type 0
  Same = Goes target typed names distinct below rooms call

  -- All statements ----------------------------------------------------------------------------------------------------

  module _ (limit : ℕ) (P : CoreStmt → Type 0) (kept : IsKept names rooms limit P) where
    -- what is known behind something that fits the names of a scope
    pub record After (scope scope' : List Declared) (parts : List Part) (lines : List ℕ) (needs : ℕ) (plain : Act Variables (Unit {0})) (low : Lowered) : Type 0 where
      pub within : Within names scope'
      pub extends : Extends scope scope'
      pub goes : (taken : ℕ) → taken + needs ≤ rooms → Same scope scope' taken plain (low taken)
      pub keeps : AllByRecursion IsPart parts → AllByRecursion (λ line. line < limit) lines → (taken : ℕ) → taken + needs ≤ rooms → AllByRecursion P (low taken)

    -- what is known of something with these parts and lines
    abbrev pub ClaimOf : Scoped → List Declared → List Part → List ℕ → ℕ → Act Variables (Unit {0}) → Lowered → Type 0
    ClaimOf fits entries parts lines needs plain low = (scope scope' : List Declared) → fits scope ≡ Some scope' → Within names scope → AllByRecursion (KnownIn names) entries → After scope scope' parts lines needs plain low

    abbrev pub Claim : Stmt → Type 0
    Claim s = ClaimOf (scoped s) (declared_in s) (parts_in s) (lines_in s) (unnamed_in s) (meaning s) (lowered names s)

    abbrev pub Known : Type 0
    Known = (s : Stmt) × Claim s

    abbrev pub first : Known → Stmt
    first known = known.0

    -- a statement in whose scope nothing is declared
    still : (scope : List Declared) (parts : List Part) (lines : List ℕ) (needs : ℕ) (plain : Act Variables (Unit {0})) (low : Lowered) → Within names scope
        → ((taken : ℕ) → taken + needs ≤ rooms → Same scope scope taken plain (low taken))
        → (AllByRecursion IsPart parts → AllByRecursion (λ line. line < limit) lines → (taken : ℕ) → taken + needs ≤ rooms → AllByRecursion P (low taken))
        → (scope' : List Declared) → scope ≡ scope' → After scope scope' parts lines needs plain low
    still scope parts lines needs plain low within goes keeps scope' same =
        subst (λ scope'. After scope scope' parts lines needs plain low) same (record { within = within; extends = λ name entry h. h; goes = goes; keeps = keeps })

    -- what a list of statements does, is lowered to, declares, needs, and has written out
    abbrev plains : List Known → Act Variables (Unit {0})
    plains ks = means.in_order (map meaning (map first ks))

    abbrev lows : List Known → Lowered
    lows ks = lower.in_order (map (lowered names) (map first ks))

    abbrev entries_of : List Known → List Declared
    entries_of ks = joined (map declared_in (map first ks))

    abbrev needed : List Known → ℕ
    needed ks = deepest (map unnamed_in (map first ks))

    abbrev parts_of : List Known → List Part
    parts_of ks = joined (map parts_in (map first ks))

    abbrev lines_of : List Known → List ℕ
    lines_of ks = joined (map lines_in (map first ks))

    pub block : (ks : List Known) (scope scope' : List Declared) → scoped_in_order (map scoped (map first ks)) scope ≡ Some scope' → Within names scope → AllByRecursion (KnownIn names) (entries_of ks)
        → After scope scope' (parts_of ks) (lines_of ks) (needed ks) (plains ks) (lows ks)
    block [] scope scope' h within known = still scope [] [] 0 (plains []) (lows []) within (λ taken few. nothing_goes target typed names distinct below rooms call scope within taken) (λ parts lines taken few. tt) scope' (some_same scope scope' h)
    block (k ∷ ks) scope scope' h within known =
        let found = then_found (scoped_in_order (map scoped (map first ks))) (scoped k.0 scope) scope' h in
        let here = k.1 scope found.0 found.1 within (all_before (KnownIn names) (declared_in k.0) (entries_of ks) known) in
        let rest = block ks found.0 scope' found.2 here.within (all_behind (KnownIn names) (declared_in k.0) (entries_of ks) known) in
        let one = deepest_first (unnamed_in k.0) (map unnamed_in (map first ks)) in
        let others = deepest_others (unnamed_in k.0) (map unnamed_in (map first ks))
        in record {
          within = rest.within;
          extends = λ name entry e. rest.extends name entry (here.extends name entry e);
          goes = λ taken few. goes_then target typed names distinct below rooms call scope found.0 scope' taken (meaning k.0) (plains ks) (lowered names k.0 taken) (lows ks taken) (here.goes taken (omega arith)) (rest.goes taken (omega arith));
          keeps = λ parts lines taken few. all_append P (lowered names k.0 taken) (lows ks taken)
              (here.keeps (all_before IsPart (parts_in k.0) (parts_of ks) parts) (all_before (λ line. line < limit) (lines_in k.0) (lines_of ks) lines) taken (omega arith))
              (rest.keeps (all_behind IsPart (parts_in k.0) (parts_of ks) parts) (all_behind (λ line. line < limit) (lines_in k.0) (lines_of ks) lines) taken (omega arith));
        }

    -- a block ends with its scope
    inner_goes : (ks : List Known) (scope inner : List Declared) → After scope inner (parts_of ks) (lines_of ks) (needed ks) (plains ks) (lows ks) → (taken : ℕ) → taken + needed ks ≤ rooms → Same scope scope taken (plains ks) (lows ks taken)
    inner_goes ks scope inner after taken few = go_less names below rooms OnNext scope scope inner taken (plains ks) (do_all target typed names distinct below rooms call (lows ks taken)) after.extends (after.goes taken few)

    -- the scope with one more declaration
    extends_declared : (scope : List Declared) (entry : Declared) → Within names scope → KnownIn names entry → Extends scope (entry ∷ scope)
    extends_declared scope entry within known name other h =
        either (declares name entry)
        (λ e. rw e (sym known ∙ (ap (declaration names) (same_bytes entry.name name e) ∙ within name other h)))
        (λ e. rw e h)

    -- a layer of a statement
    via : (x : Stmt-F Stmt)
        → ClaimOf (scoped_step (map-Stmt Stmt Scoped scoped x)) (declared_step (map-Stmt Stmt (List Declared) declared_in x)) (parts_step (map-Stmt Stmt (List Part) parts_in x)) (lines_step (map-Stmt Stmt (List ℕ) lines_in x)) (unnamed_step (map-Stmt Stmt ℕ unnamed_in x)) (meaning_step (map-Stmt Stmt (Act Variables (Unit {0})) meaning x)) (lowered_step names (map-Stmt Stmt Lowered (lowered names) x))
        → Claim (roll-Stmt x)
    via x h =
        subst (λ f. ClaimOf f (declared_in (roll-Stmt x)) (parts_in (roll-Stmt x)) (lines_in (roll-Stmt x)) (unnamed_in (roll-Stmt x)) (meaning (roll-Stmt x)) (lowered names (roll-Stmt x))) (sym (scoped_layer x))
        (subst (λ d. ClaimOf (scoped_step (map-Stmt Stmt Scoped scoped x)) d (parts_in (roll-Stmt x)) (lines_in (roll-Stmt x)) (unnamed_in (roll-Stmt x)) (meaning (roll-Stmt x)) (lowered names (roll-Stmt x))) (sym (declared_layer x))
        (subst (λ p. ClaimOf (scoped_step (map-Stmt Stmt Scoped scoped x)) (declared_step (map-Stmt Stmt (List Declared) declared_in x)) p (lines_in (roll-Stmt x)) (unnamed_in (roll-Stmt x)) (meaning (roll-Stmt x)) (lowered names (roll-Stmt x))) (sym (parts_layer x))
        (subst (λ l. ClaimOf (scoped_step (map-Stmt Stmt Scoped scoped x)) (declared_step (map-Stmt Stmt (List Declared) declared_in x)) (parts_step (map-Stmt Stmt (List Part) parts_in x)) l (unnamed_in (roll-Stmt x)) (meaning (roll-Stmt x)) (lowered names (roll-Stmt x))) (sym (lines_layer x))
        (subst (λ n. ClaimOf (scoped_step (map-Stmt Stmt Scoped scoped x)) (declared_step (map-Stmt Stmt (List Declared) declared_in x)) (parts_step (map-Stmt Stmt (List Part) parts_in x)) (lines_step (map-Stmt Stmt (List ℕ) lines_in x)) n (meaning (roll-Stmt x)) (lowered names (roll-Stmt x))) (sym (unnamed_layer x))
        (subst (λ m. ClaimOf (scoped_step (map-Stmt Stmt Scoped scoped x)) (declared_step (map-Stmt Stmt (List Declared) declared_in x)) (parts_step (map-Stmt Stmt (List Part) parts_in x)) (lines_step (map-Stmt Stmt (List ℕ) lines_in x)) (unnamed_step (map-Stmt Stmt ℕ unnamed_in x)) m (lowered names (roll-Stmt x))) (sym (meaning_layer x))
        (subst (λ l. ClaimOf (scoped_step (map-Stmt Stmt Scoped scoped x)) (declared_step (map-Stmt Stmt (List Declared) declared_in x)) (parts_step (map-Stmt Stmt (List Part) parts_in x)) (lines_step (map-Stmt Stmt (List ℕ) lines_in x)) (unnamed_step (map-Stmt Stmt ℕ unnamed_in x)) (meaning_step (map-Stmt Stmt (Act Variables (Unit {0})) meaning x)) l) (sym (lowered_layer names x)) h))))))

    -- every statement
    claim : (s : Stmt) → Claim s
    claim s = ind-Stmt Claim (λ x y same. subst (λ z. Claim (roll-Stmt z)) same (layer y)) s
      where
        layer : (y : Stmt-F Known) → Claim (roll-Stmt (map-Stmt Known Stmt first y))
        layer (stmt.Declare is_var name type right) = via (stmt.Declare is_var name type right) (λ scope scope' h within known.
            let entry : Declared = record { name = name; is_var = is_var; type = type } in
            let is = where_holds (right_fits scope type right) (entry ∷ scope) scope' h
            in subst (λ scope'. After scope scope' (ARight right ∷ []) (right_lines right) 0 (right_value right >>= store name) (λ taken. store_right names (path_of names name) right ∷ [])) is.1
            (record {
              within = within_declared names scope entry within known.0;
              extends = extends_declared scope entry within known.0;
              goes = λ taken few. stored_goes target typed names distinct below rooms call scope within taken (entry ∷ scope) name entry right known.0 is.0 (λ value variables ready holds. ready_declared scope variables entry value ready holds);
              keeps = λ parts lines taken few. (kept.store scope within name entry known.0 right is.0 parts.0 lines, tt);
            }))
        layer (stmt.Assign name value) = via (stmt.Assign name value) (λ scope scope' h within known.
            let is = where_holds (assigned_fits scope (declaration scope name) value) scope scope' h in
            let to = assigned scope (declaration scope name) value is.0 in
            let at = within name to.0 to.1
            in still scope (ARight value ∷ []) (right_lines value) 0 (right_value value >>= store name) (λ taken. store_right names (path_of names name) value ∷ []) within
            (λ taken few. stored_goes target typed names distinct below rooms call scope within taken scope name to.0 value at to.2 (λ given variables ready holds. ready_stored scope variables name to.0 given ready to.1 holds))
            (λ parts lines taken few. (kept.store scope within name to.0 at value to.2 parts.0 lines, tt))
            scope' is.1)
        layer (stmt.Print atom) = via (stmt.Print atom) (λ scope scope' h within known.
            let is = where_holds (is_some (kind_of_atom scope atom)) scope scope' h in
            let type = there (kind_of_atom scope atom) is.0 in
            let same = sym (kind_within names scope within atom type.0 type.1)
            in still scope (AnAtom atom ∷ []) [] 0 (with_value atom (λ value. print_line (printed_value value))) (λ taken. print_of (kind_of_atom names atom) (atom_expr names atom)) within
            (λ taken few. subst (λ given. Same scope scope taken (with_value atom (λ value. print_line (printed_value value))) (print_of given (atom_expr names atom))) same (printed_goes target typed names distinct below rooms call scope within taken type.0 atom type.1))
            (λ parts lines taken few. subst (λ given. AllByRecursion P (print_of given (atom_expr names atom))) same (print_kept scope within atom type.0 type.1 parts.0))
            scope' is.1)
          where
            print_kept : (scope : List Declared) → Within names scope → (atom : Atom) (type : Kind) → kind_of_atom scope atom ≡ Some type → IsAtom atom → AllByRecursion P (print_of (Some type) (atom_expr names atom))
            print_kept scope within atom kind.Number h is = (kept.print scope within atom kind.Number h is, (kept.text (codes "\n") (omega arith, tt), tt))
            print_kept scope within atom kind.Truth h is =
                (kept.choice scope within (condition.Just atom) (rw h refl) is (put_text (codes "T\n") ∷ []) (put_text (codes "F\n") ∷ []) (kept.text (codes "T\n") (omega arith, (omega arith, tt)), tt) (kept.text (codes "F\n") (omega arith, (omega arith, tt)), tt), tt)
        layer (stmt.PrintText text) = via (stmt.PrintText text) (λ scope scope' h within known.
            still scope (AText text ∷ []) [] 0 (print_line text) (λ taken. put_text (text ++ 10 ∷ []) ∷ []) within (λ taken few. text_goes target typed names distinct below rooms call scope within taken text)
            (λ parts lines taken few. (kept.text (text ++ 10 ∷ []) (text_bytes text parts.0), tt)) scope' (some_same scope scope' h))
        layer (stmt.If test chosen other) = via (stmt.If test (map first chosen) (map first other)) (λ scope scope' h within known.
            let is = where_holds (condition_fits scope test && block_fits (map scoped (map first chosen)) scope && block_fits (map scoped (map first other)) scope) scope scope' h in
            let blocks = both (condition_fits scope test && block_fits (map scoped (map first chosen)) scope) (block_fits (map scoped (map first other)) scope) is.0 in
            let fit = both (condition_fits scope test) (block_fits (map scoped (map first chosen)) scope) blocks.0 in
            let one = there (scoped_in_order (map scoped (map first chosen)) scope) fit.1 in
            let second = there (scoped_in_order (map scoped (map first other)) scope) blocks.1 in
            let after_one = block chosen scope one.0 one.1 within (all_before (KnownIn names) (entries_of chosen) (entries_of other) known) in
            let after_second = block other scope second.0 second.1 within (all_behind (KnownIn names) (entries_of chosen) (entries_of other) known)
            in still scope (ACondition test ∷ parts_of chosen ++ parts_of other) (lines_of chosen ++ lines_of other) (max (needed chosen) (needed other)) (condition_value test >>= (λ so. choose so (plains chosen) (plains other)))
            (λ taken. core.If (condition_expr names test) (lows chosen taken) (lows other taken) ∷ []) within
            (λ taken few. chosen_goes target typed names distinct below rooms call scope within taken test fit.0 (plains chosen) (plains other) (lows chosen taken) (lows other taken)
            (inner_goes chosen scope one.0 after_one taken (omega arith)) (inner_goes other scope second.0 after_second taken (omega arith)))
            (λ parts lines taken few. (
              kept.choice scope within test fit.0 parts.0 (lows chosen taken) (lows other taken)
                  (after_one.keeps (all_before IsPart (parts_of chosen) (parts_of other) parts.1) (all_before (λ line. line < limit) (lines_of chosen) (lines_of other) lines) taken (omega arith))
                  (after_second.keeps (all_behind IsPart (parts_of chosen) (parts_of other) parts.1) (all_behind (λ line. line < limit) (lines_of chosen) (lines_of other) lines) taken (omega arith)),
              tt,
            ))
            scope' is.1)
        layer (stmt.While test body) = via (stmt.While test (map first body)) (λ scope scope' h within known.
            let is = where_holds (condition_fits scope test && block_fits (map scoped (map first body)) scope) scope scope' h in
            let fit = both (condition_fits scope test) (block_fits (map scoped (map first body)) scope) is.0 in
            let inner = there (scoped_in_order (map scoped (map first body)) scope) fit.1 in
            let after = block body scope inner.0 inner.1 within known
            in still scope (ACondition test ∷ parts_of body) (lines_of body) (needed body) (while_holds test (plains body)) (λ taken. core.Loop (leave_unless (condition_expr names test) ∷ lows body taken) ∷ []) within
            (λ taken few. while_goes target typed names distinct below rooms call scope within taken test fit.0 (plains body) (lows body taken) (inner_goes body scope inner.0 after taken few))
            (λ parts lines taken few. (kept.loop scope within test fit.0 parts.0 (lows body taken) (after.keeps parts.1 lines taken few), tt))
            scope' is.1)
        layer (stmt.For name from to body line) = via (stmt.For name from to (map first body) line) (λ scope scope' h within known.
            let entry : Declared = counted name in
            let is = where_holds (are_numbers scope from to && block_fits (map scoped (map first body)) (entry ∷ scope)) scope scope' h in
            let fit = both (are_numbers scope from to) (block_fits (map scoped (map first body)) (entry ∷ scope)) is.0 in
            let bounds = both (has_kind kind.Number (kind_of_atom scope from)) (has_kind kind.Number (kind_of_atom scope to)) fit.0 in
            let from_is = kind_is kind.Number (kind_of_atom scope from) bounds.0 in
            let to_is = kind_is kind.Number (kind_of_atom scope to) bounds.1 in
            let inner = there (scoped_in_order (map scoped (map first body)) (entry ∷ scope)) fit.1 in
            let after = block body (entry ∷ scope) inner.0 inner.1 (within_declared names scope entry within known.0) known.1
            in still scope (AnAtom from ∷ AnAtom to ∷ parts_of body) (line ∷ lines_of body) (suc (suc (needed body)))
            (with_number from (λ a. with_number to (λ b. for_numbers line name a (count_until a b) (plains body))))
            (λ taken. for_of line (path_of names name) (unnamed names taken) (unnamed names (suc taken)) (atom_expr names from) (atom_expr names to) (lows body (suc (suc taken)))) within
            (λ taken few. for_goes target typed names distinct below rooms call calm scope inner.0 taken name known.0 (λ other found e. after.extends other found (extends_declared scope entry within known.0 other found e))
            line (plains body) (lows body (suc (suc taken))) (after.goes (suc (suc taken)) (omega arith)) within from to from_is to_is (omega arith))
            (λ parts lines taken few. (
              kept.bound scope within from from_is parts.0 taken (omega arith),
              (
                kept.bound scope within to to_is parts.1.0 (suc taken) (omega arith),
                (kept.count name entry known.0 taken (omega arith) line lines.0 (lows body (suc (suc taken))) (after.keeps parts.1.1 lines.1 (suc (suc taken)) (omega arith)), tt),
              ),
            ))
            scope' is.1)
        layer (stmt.Assert test line) = via (stmt.Assert test line) (λ scope scope' h within known.
            let is = where_holds (condition_fits scope test) scope scope' h
            in still scope (ACondition test ∷ []) (line ∷ []) 0 (condition_value test >>= (λ so. choose so (pure tt) (over (run.Halt assert_halt 0 line)))) (λ taken. core.If (condition_expr names test) [] (core.Halt assert_halt 0 line ∷ []) ∷ []) within
            (λ taken few. chosen_goes target typed names distinct below rooms call scope within taken test is.0 (pure tt) (over (run.Halt assert_halt 0 line)) [] (core.Halt assert_halt 0 line ∷ []) (nothing_goes target typed names distinct below rooms call scope within taken) (halt_goes target typed names distinct below rooms call scope within taken assert_halt line))
            (λ parts lines taken few. (kept.choice scope within test is.0 parts.0 [] (core.Halt assert_halt 0 line ∷ []) tt (kept.halt assert_halt (omega arith) line lines.0, tt), tt))
            scope' is.1)
        layer (stmt.Halt text line) = via (stmt.Halt text line) (λ scope scope' h within known.
            still scope (AText text ∷ []) (line ∷ []) 0 (over (run.Halt halt_halt 0 line)) (λ taken. core.Halt halt_halt 0 line ∷ []) within
            (λ taken few. halt_goes target typed names distinct below rooms call scope within taken halt_halt line) (λ parts lines taken few. (kept.halt halt_halt (omega arith) line lines.0, tt)) scope' (some_same scope scope' h))

    -- statements with what is known of them
    all_known_of : (ss : List Stmt) → (ks : List Known) × (map first ks ≡ ss)
    all_known_of [] = ([], refl)
    all_known_of (s ∷ ss) = let ks = all_known_of ss in ((s, claim s) ∷ ks.0, ap (λ rest. s ∷ rest) ks.1)

    -- statements in order
    pub statements : (ss : List Stmt) (scope scope' : List Declared) → scoped_in_order (map scoped ss) scope ≡ Some scope' → Within names scope → AllByRecursion (KnownIn names) (joined (map declared_in ss))
        → After scope scope' (joined (map parts_in ss)) (joined (map lines_in ss)) (deepest (map unnamed_in ss)) (means.in_order (map meaning ss)) (lower.in_order (map (lowered names) ss))
    statements ss =
        let ks = all_known_of ss
        in subst (λ ss. (scope scope' : List Declared) → scoped_in_order (map scoped ss) scope ≡ Some scope' → Within names scope → AllByRecursion (KnownIn names) (joined (map declared_in ss)) → After scope scope' (joined (map parts_in ss)) (joined (map lines_in ss)) (deepest (map unnamed_in ss)) (means.in_order (map meaning ss)) (lower.in_order (map (lowered names) ss))) ks.1 (block ks.0)
