use Rattle.std.proofs.Common.{◌≡◌, true, refl, arith, ◌∷◌, []}
use Rattle.pgm_script.specs.Commands.{map_kind, put_command, del_command, get_command}
use Rattle.pgm_script.specs.Commands.{next_command, count_command, sweep_command}
use Rattle.pgm_script.proofs.PlainLemmas.{begins, found-both, found-sweep}
use Rattle.pgm_script.proofs.plain.plain_map_command.Goals as goal

-- put
pub returns-in-112-clause-command : goal.returns-in-112-clause-command
returns-in-112-clause-command c =
    begins (map_kind c.args.sweeps) (map_kind c.args.sweeps) c.args.text.now (112 ∷ 117 ∷ 116 ∷ [])
    put_command refl c.in-112.len_at_least (omega arith, (omega arith, (omega arith, tt))) (omega arith) refl
    (found-both c.args.sweeps (112 ∷ 117 ∷ 116 ∷ []) put_command (λ s. refl)) refl (omega arith, omega arith)

-- del
pub returns-in-100-clause-command : goal.returns-in-100-clause-command
returns-in-100-clause-command c =
    begins (map_kind c.args.sweeps) (map_kind c.args.sweeps) c.args.text.now (100 ∷ 101 ∷ 108 ∷ [])
    del_command refl c.in-100.len_at_least (omega arith, (omega arith, (omega arith, tt))) (omega arith) refl
    (found-both c.args.sweeps (100 ∷ 101 ∷ 108 ∷ []) del_command (λ s. refl)) refl (omega arith, omega arith)

-- get
pub returns-in-103-clause-command : goal.returns-in-103-clause-command
returns-in-103-clause-command c =
    begins (map_kind c.args.sweeps) (map_kind c.args.sweeps) c.args.text.now (103 ∷ 101 ∷ 116 ∷ [])
    get_command refl c.in-103.len_at_least (omega arith, (omega arith, (omega arith, tt))) (omega arith) refl
    (found-both c.args.sweeps (103 ∷ 101 ∷ 116 ∷ []) get_command (λ s. refl)) refl (omega arith, omega arith)

-- next
pub returns-in-110-clause-command : goal.returns-in-110-clause-command
returns-in-110-clause-command c =
    begins (map_kind c.args.sweeps) (map_kind c.args.sweeps) c.args.text.now (110 ∷ 101 ∷ 120 ∷ 116 ∷ []) next_command
    refl c.in-110.len_at_least (omega arith, (omega arith, (omega arith, (omega arith, tt)))) (omega arith) refl
    (found-both c.args.sweeps (110 ∷ 101 ∷ 120 ∷ 116 ∷ []) next_command (λ s. refl)) refl (omega arith, omega arith)

-- count
pub returns-in-99-clause-command : goal.returns-in-99-clause-command
returns-in-99-clause-command c =
    begins (map_kind c.args.sweeps) (map_kind c.args.sweeps) c.args.text.now
    (99 ∷ 111 ∷ 117 ∷ 110 ∷ 116 ∷ []) count_command refl c.in-99.len_at_least
    (omega arith, (omega arith, (omega arith, (omega arith, (omega arith, tt)))))
    (omega arith) refl (found-both c.args.sweeps (99 ∷ 111 ∷ 117 ∷ 110 ∷ 116 ∷ []) count_command (λ s. refl)) refl
    (omega arith, omega arith)

-- sweep
pub returns-in-115-clause-command : goal.returns-in-115-clause-command
returns-in-115-clause-command c =
    begins (map_kind c.args.sweeps) (map_kind c.args.sweeps) c.args.text.now
    (115 ∷ 119 ∷ 101 ∷ 101 ∷ 112 ∷ []) sweep_command refl c.in-115.len_at_least
    (omega arith, (omega arith, (omega arith, (omega arith, (omega arith, tt))))) (omega arith) refl
    (found-sweep c.args.sweeps (let may : c.args.sweeps ≡ true = cc in may)) refl (omega arith, omega arith)
