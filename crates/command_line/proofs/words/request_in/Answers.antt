use Rattle.std.proofs.Common.{sym}
use Rattle.std.specs.Prelude.{codes}
use Rattle.command_line.specs.Requests.{rows_in}
use Rattle.command_line.proofs.TakenWords.{command_met, options_of, build_options, explain_options, query_options}
use Rattle.command_line.proofs.TakenWords.{relax_options, box_options, near_options, replaying_options, mix_options}
use Rattle.command_line.proofs.TakenWords.{hint_options, find_options, drill_options, save_options, check_options}
use Rattle.command_line.proofs.words.request_in.Goals as goal

pub building_in-building-requires : goal.building_in-building-requires
building_in-building-requires c =
    options_of (c.args.name.now, rows_in c.args.found.now)
    (codes "build") build_options (command_met c.requires.0 _ c.requires.1 c.requires.2) (sym c.if-eq.ensures)

pub building_in-building-requires-then-eq-2 : goal.building_in-building-requires-then-eq-2
building_in-building-requires-then-eq-2 c =
    options_of (c.args.name.now, rows_in c.args.found.now)
    (codes "explain") explain_options (command_met c.requires.0 _ c.requires.1 c.requires.2) (sym c.if-eq-2.ensures)

pub query_in-requires-clause-index : goal.query_in-requires-clause-index
query_in-requires-clause-index c =
    (options_of (c.args.name.now, rows_in c.args.found.now)
    (codes "query") query_options (command_met c.requires.0 _ c.requires.1 c.requires.2) (sym c.if-eq-3.ensures)).0

pub query_in-requires-clause-options : goal.query_in-requires-clause-options
query_in-requires-clause-options c =
    (options_of (c.args.name.now, rows_in c.args.found.now)
    (codes "query") query_options (command_met c.requires.0 _ c.requires.1 c.requires.2) (sym c.if-eq-3.ensures)).1

pub relax_in-requires-clause-index : goal.relax_in-requires-clause-index
relax_in-requires-clause-index c =
    (options_of (c.args.name.now, rows_in c.args.found.now)
    (codes "relax") relax_options (command_met c.requires.0 _ c.requires.1 c.requires.2) (sym c.if-eq-4.ensures)).0

pub relax_in-requires-clause-pieces : goal.relax_in-requires-clause-pieces
relax_in-requires-clause-pieces c =
    (options_of (c.args.name.now, rows_in c.args.found.now)
    (codes "relax") relax_options (command_met c.requires.0 _ c.requires.1 c.requires.2) (sym c.if-eq-4.ensures)).1

pub searching_in-searching-requires : goal.searching_in-searching-requires
searching_in-searching-requires c =
    options_of (c.args.name.now, rows_in c.args.found.now)
    (codes "box") box_options (command_met c.requires.0 _ c.requires.1 c.requires.2) (sym c.if-eq-5.ensures)

pub searching_in-searching-requires-then-eq-6 : goal.searching_in-searching-requires-then-eq-6
searching_in-searching-requires-then-eq-6 c =
    options_of (c.args.name.now, rows_in c.args.found.now)
    (codes "near") near_options (command_met c.requires.0 _ c.requires.1 c.requires.2) (sym c.if-eq-6.ensures)

pub replaying_in-replaying-requires : goal.replaying_in-replaying-requires
replaying_in-replaying-requires c =
    options_of (c.args.name.now, rows_in c.args.found.now) (codes "replay") replaying_options
    (command_met c.requires.0 _ c.requires.1 c.requires.2) (sym c.if-eq-7.ensures)

pub mix_in-requires-clause-replay : goal.mix_in-requires-clause-replay
mix_in-requires-clause-replay c =
    (options_of (c.args.name.now, rows_in c.args.found.now)
    (codes "mix") mix_options (command_met c.requires.0 _ c.requires.1 c.requires.2) (sym c.if-eq-8.ensures)).0

pub mix_in-requires-clause-senders : goal.mix_in-requires-clause-senders
mix_in-requires-clause-senders c =
    (options_of (c.args.name.now, rows_in c.args.found.now)
    (codes "mix") mix_options (command_met c.requires.0 _ c.requires.1 c.requires.2) (sym c.if-eq-8.ensures)).1

pub hinting_in-hinting-requires : goal.hinting_in-hinting-requires
hinting_in-hinting-requires c =
    options_of (c.args.name.now, rows_in c.args.found.now)
    (codes "hints") hint_options (command_met c.requires.0 _ c.requires.1 c.requires.2) (sym c.if-eq-9.ensures)

pub finding_in-finding-requires : goal.finding_in-finding-requires
finding_in-finding-requires c =
    options_of (c.args.name.now, rows_in c.args.found.now)
    (codes "find") find_options (command_met c.requires.0 _ c.requires.1 c.requires.2) (sym c.if-eq-10.ensures)

pub drilling_in-drilling-requires : goal.drilling_in-drilling-requires
drilling_in-drilling-requires c =
    options_of (c.args.name.now, rows_in c.args.found.now)
    (codes "drill") drill_options (command_met c.requires.0 _ c.requires.1 c.requires.2) (sym c.if-eq-11.ensures)

pub building_in-building-requires-then-eq-12 : goal.building_in-building-requires-then-eq-12
building_in-building-requires-then-eq-12 c =
    options_of (c.args.name.now, rows_in c.args.found.now)
    (codes "save") save_options (command_met c.requires.0 _ c.requires.1 c.requires.2) (sym c.if-eq-12.ensures)

pub checking_in-checking-requires : goal.checking_in-checking-requires
checking_in-checking-requires c =
    options_of (c.args.name.now, rows_in c.args.found.now)
    (codes "check") check_options (command_met c.requires.0 _ c.requires.1 c.requires.2) (sym c.if-eq-13.ensures)
