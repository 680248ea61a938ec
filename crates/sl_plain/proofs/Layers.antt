-- What statements mean, declare and are lowered to, layer by layer.
use Rattle.std.proofs.Common.{◌≡◌, ℕ, List}
use Rattle.sl_run.specs.Run.{Act}
use Rattle.sl_plain.specs.declared.program.Stmt.{Stmt, Stmt-F, fold-roll-Stmt, map-Stmt, roll-Stmt}
use Rattle.sl_plain.specs.Program.{Part, Declared, Scoped, scoped_step, scoped, declared_step, declared_in, depth_step, depth, parts_step, parts_in}
use Rattle.sl_plain.specs.Means.{Variables, meaning_step, meaning}
use Rattle.sl_plain.specs.Lowered.{Lowered, lowered_step, lowered}
use Rattle.sl_plain.specs.Reach.{lines_step, lines_in}

pub scoped_layer : (x : Stmt-F Stmt) → scoped (roll-Stmt x) ≡ scoped_step (map-Stmt Stmt Scoped scoped x)
unfolding scoped
scoped_layer x = fold-roll-Stmt Scoped scoped_step x

pub declared_layer : (x : Stmt-F Stmt) → declared_in (roll-Stmt x) ≡ declared_step (map-Stmt Stmt (List Declared) declared_in x)
unfolding declared_in
declared_layer x = fold-roll-Stmt (List Declared) declared_step x

pub parts_layer : (x : Stmt-F Stmt) → parts_in (roll-Stmt x) ≡ parts_step (map-Stmt Stmt (List Part) parts_in x)
unfolding parts_in
parts_layer x = fold-roll-Stmt (List Part) parts_step x

pub lines_layer : (x : Stmt-F Stmt) → lines_in (roll-Stmt x) ≡ lines_step (map-Stmt Stmt (List ℕ) lines_in x)
unfolding lines_in
lines_layer x = fold-roll-Stmt (List ℕ) lines_step x

pub depth_layer : (x : Stmt-F Stmt) → depth (roll-Stmt x) ≡ depth_step (map-Stmt Stmt ℕ depth x)
unfolding depth
depth_layer x = fold-roll-Stmt ℕ depth_step x

pub meaning_layer : (x : Stmt-F Stmt) → meaning (roll-Stmt x) ≡ meaning_step (map-Stmt Stmt (Act Variables (Unit {0})) meaning x)
unfolding meaning
meaning_layer x = fold-roll-Stmt (Act Variables (Unit {0})) meaning_step x

pub lowered_layer : (names : List Declared) (x : Stmt-F Stmt) → lowered names (roll-Stmt x) ≡ lowered_step names (map-Stmt Stmt Lowered (lowered names) x)
unfolding lowered
lowered_layer names x = fold-roll-Stmt Lowered (lowered_step names) x
