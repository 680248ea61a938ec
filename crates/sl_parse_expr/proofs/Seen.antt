-- Each name of the grammar spells what its rule does: those that are no trees have its parts.
use Rattle.std.proofs.Common.{◌≡◌, List, [], ◌∷◌, refl, sym, inl, inr, Bool, true, false, if◌then◌else◌}
use Rattle.sl_grammar.specs.Law.{Seen}
use Rattle.sl_grammar.specs.Grammar.{Form, Token, Val, spells_form}
use Rattle.sl_grammar.proofs.Grammar.{and_left, and_right}
use Rattle.sl_tree.specs.Sorts.{Spelled, sort, number}
use Rattle.sl_tree.specs.WellShaped.{Is}
use Rattle.sl_parse_expr.specs.Names.{Name, Path, Type_term, Expression, Level, Link, Prefix, Minus, Postfix, Suffix, Arguments, Primary, Matched, A_case, Pattern_of, Name_tail, Class_tail, Statements, Block, Statement, Declaration, If_head, If_any, If_tail, If_only, Else_tail, While_loop, For_loop, Return_of, Opening, Started, Begun, Assigned, Group, At, Levels, open_to, deeper, fits, if_tail_form, opening_form, skip_form}
use Rattle.sl_parse_expr.specs.Values.{T_of, IfTailParts, OpeningParts}
use Rattle.sl_parse_expr.specs.Grammar.{grammar, room, tree, spells, valid_at, own_at, up_to, choose, one_of, no_tail, skipped}
use Rattle.sl_parse_expr.proofs.SeenAt.{SeenAt, TreesSeen}

abbrev Said : (g : Form At) → Val sort T_of g → List Spelled → Type 0
Said g v ts = spells_form sort T_of room spells g v ts

-- of a rule that is one of two
picked : {X : Type 0} (p q : Form At) (b : Bool) (f : Val sort T_of p → X) (g : Val sort T_of q → X) (l m : X → List Spelled → Type 0)
    → Seen (Said p) f l → Seen (Said q) g m → Seen (Said (if b then p else q)) (choose p q b f g) (λ x ts. one_of b (l x ts) (m x ts))
picked p q true f g l m u w = record { to = u.to; back = u.back }
picked p q false f g l m u w = record { to = w.to; back = w.back }

abbrev NoTail : IfTailParts → List Spelled → Type 0
NoTail v ts = (k : Spelled) × (ts ≡ k ∷ []) × Is (number ∷ []) k × (v ≡ no_tail k)

none_seen : Seen (Said (Token (number ∷ []))) no_tail NoTail
none_seen = record { to = λ k ts w. (k, w.0, w.1, refl); back = λ v ts w. (w.0, sym w.3, (w.1, w.2)) }

tail_seen : (r : Levels) → SeenAt If_tail r
tail_seen r =
    picked (if_tail_form r) (Token (number ∷ [])) (fits (deeper r)) (λ v. v) no_tail (λ v ts. Said (if_tail_form r) v ts) NoTail
    (record { to = λ v ts w. w; back = λ v ts w. (v, refl, w) }) none_seen

abbrev Skipping : Levels → OpeningParts → List Spelled → Type 0
Skipping r v ts = skipped v (λ w. Said (skip_form r) w ts)

skip_seen : (r : Levels) → Seen (Said (skip_form r)) (λ v. inl v) (Skipping r)
skip_seen r = record { to = λ v ts w. w; back = back }
  where
    back : (v : OpeningParts) (ts : List Spelled) → Skipping r v ts → (w : Spelled × List Spelled) × (inl w ≡ v) × Said (skip_form r) w ts
    back (inl w) ts u = (w, refl, u)
    back (inr w) ts u = absurd u

opening_seen : (r : Levels) → SeenAt Opening r
opening_seen r =
    picked (opening_form r) (skip_form r) (fits r) (λ v. v) (λ v. inl v) (λ v ts. Said (opening_form r) v ts) (Skipping r)
    (record { to = λ v ts w. w; back = λ v ts w. (v, refl, w) }) (skip_seen r)

pub seen_at : TreesSeen → (n : Name) (r : Levels) → valid_at n r ≡ true → own_at n ≡ false → SeenAt n r
seen_at t Path r v o = record { to = λ v ts w. w; back = λ v ts w. (v, refl, w) }
seen_at t Type_term r v o = t.of_type r v
seen_at t Expression r v o = t.of_expression r v
seen_at t (Level l) r v o = t.of_level l r (and_left (open_to r) (up_to 8 l) v) (and_right (open_to r) (up_to 8 l) v)
seen_at t (Link l) r v o = record { to = λ v ts w. w; back = λ v ts w. (v, refl, w) }
seen_at t Prefix r v o = t.of_prefix r v
seen_at t Minus r v o = t.of_minus r v
seen_at t Postfix r v o = t.of_postfix r v
seen_at t Suffix r v o = record { to = λ v ts w. w; back = λ v ts w. (v, refl, w) }
seen_at t Arguments r v o = record { to = λ v ts w. w; back = λ v ts w. (v, refl, w) }
seen_at t Primary r v o = t.of_primary r v
seen_at t Matched r v o = record { to = λ v ts w. w; back = λ v ts w. (v, refl, w) }
seen_at t A_case r v o = t.of_case r v
seen_at t Pattern_of r v o = t.of_pattern r v
seen_at t Name_tail r v o = record { to = λ v ts w. w; back = λ v ts w. (v, refl, w) }
seen_at t Class_tail r v o = record { to = λ v ts w. w; back = λ v ts w. (v, refl, w) }
seen_at t Statements r v o = t.of_statements r
seen_at t Block r v o = record { to = λ v ts w. w; back = λ v ts w. (v, refl, w) }
seen_at t Statement r v o = t.of_statement r v
seen_at t Declaration r v o = record { to = λ v ts w. w; back = λ v ts w. (v, refl, w) }
seen_at t If_head r v o = record { to = λ v ts w. w; back = λ v ts w. (v, refl, w) }
seen_at t If_any r v o = record { to = λ v ts w. w; back = λ v ts w. (v, refl, w) }
seen_at t If_tail r v o = tail_seen r
seen_at t If_only r v o = t.of_if_only r v
seen_at t Else_tail r v o = record { to = λ v ts w. w; back = λ v ts w. (v, refl, w) }
seen_at t While_loop r v o = record { to = λ v ts w. w; back = λ v ts w. (v, refl, w) }
seen_at t For_loop r v o = record { to = λ v ts w. w; back = λ v ts w. (v, refl, w) }
seen_at t Return_of r v o = record { to = λ v ts w. w; back = λ v ts w. (v, refl, w) }
seen_at t Opening r v o = opening_seen r
seen_at t Started r v o = record { to = λ v ts w. w; back = λ v ts w. (v, refl, w) }
seen_at t Begun r v o = record { to = λ v ts w. w; back = λ v ts w. (v, refl, w) }
seen_at t Assigned r v o = record { to = λ v ts w. w; back = λ v ts w. (v, refl, w) }
seen_at t Group r v o = absurd cc

pub seen : TreesSeen → (i : At) → grammar.valid i ≡ true → grammar.own i ≡ false → Seen (spells_form sort T_of room spells (grammar.rule i)) (tree i) (spells i)
seen t i v o = seen_at t i.name i.room v o
