use Rattle.std.proofs.Common.{◌≡◌, length, inl, inr, sym, arith, ⊎_elim, ◌∙◌}
use Rattle.sl_token.proofs.WordLengths.{words_of_length, no_such_word}
use Rattle.sl_token.proofs.words.is_word.Goals as goal

pub returns-then-len-gt9 : goal.returns-then-len-gt9
returns-then-len-gt9 c =
    sym (no_such_word c.args.name.now (⊎_elim (λ short. inl short) (λ long. inr long.1) c.if-len-gt9.either))

pub returns-then-len-eq2 : goal.returns-then-len-eq2
returns-then-len-eq2 c = c.contains.ensures.value ∙ words_of_length c.args.name.now 2 c.if-len-eq2.true

pub returns-then-len-eq3 : goal.returns-then-len-eq3
returns-then-len-eq3 c = c.contains-then-len-eq3.ensures.value ∙ words_of_length c.args.name.now 3 c.if-len-eq3.true

pub returns-then-len-eq4 : goal.returns-then-len-eq4
returns-then-len-eq4 c = c.contains-then-len-eq4.ensures.value ∙ words_of_length c.args.name.now 4 c.if-len-eq4.true

pub returns-then-len-eq5 : goal.returns-then-len-eq5
returns-then-len-eq5 c = c.contains-then-len-eq5.ensures.value ∙ words_of_length c.args.name.now 5 c.if-len-eq5.true

pub returns-then-len-eq6 : goal.returns-then-len-eq6
returns-then-len-eq6 c = c.contains-then-len-eq6.ensures.value ∙ words_of_length c.args.name.now 6 c.if-len-eq6.true

pub returns-then-len-eq7 : goal.returns-then-len-eq7
returns-then-len-eq7 c = c.contains-then-len-eq7.ensures.value ∙ words_of_length c.args.name.now 7 c.if-len-eq7.true

pub returns-then-len-eq8 : goal.returns-then-len-eq8
returns-then-len-eq8 c = c.contains-then-len-eq8.ensures.value ∙ words_of_length c.args.name.now 8 c.if-len-eq8.true

pub returns-else-len-eq8 : goal.returns-else-len-eq8
returns-else-len-eq8 c =
    let bounds = c.if-len-gt9.false in
    let not_2 = c.if-len-eq2.false in
    let not_3 = c.if-len-eq3.false in
    let not_4 = c.if-len-eq4.false in
    let not_5 = c.if-len-eq5.false in
    let not_6 = c.if-len-eq6.false in
    let not_7 = c.if-len-eq7.false in
    let not_8 = c.if-len-eq8.false in
    let nine : length c.args.name.now ≡ 9 = omega arith in
    c.contains-else-len-eq8.ensures.value ∙ words_of_length c.args.name.now 9 nine
