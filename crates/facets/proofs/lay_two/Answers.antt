use Rattle.grid.specs.Listed.{listed}
use Rattle.facets.proofs.Laying.{first_fits, first_seen_fit, second_fits, second_seen_fit, two_laid}
use Rattle.facets.proofs.lay_two.Goals as goal

pub push-requires : goal.push-requires
push-requires c = first_fits (listed c.args.chosen.now.points) c.args.chosen.now.list.now c.args.u c.args.w c.args.v c.args.out.now c.requires.room c.at-a.ensures c.at-b.ensures c.at-c.ensures

pub push_seeing-requires : goal.push_seeing-requires
push_seeing-requires c =
    first_seen_fit (listed c.args.chosen.now.points) c.args.chosen.now.list.now c.args.u c.args.w c.args.v c.args.out.now c.requires.room c.at-a.ensures c.at-b.ensures c.at-c.ensures
    c.mark.ensures c.push.ensures

pub push-requires-2 : goal.push-requires-2
push-requires-2 c =
    second_fits (listed c.args.chosen.now.points) c.args.chosen.now.list.now c.args.u c.args.w c.args.v c.args.out.now c.requires.room c.at-a.ensures c.at-b.ensures c.at-c.ensures
    c.mark.ensures c.push.ensures c.push_seeing.ensures

pub push_seeing-requires-2 : goal.push_seeing-requires-2
push_seeing-requires-2 c =
    second_seen_fit (listed c.args.chosen.now.points) c.args.chosen.now.list.now c.args.u c.args.w c.args.v c.args.out.now c.requires.room c.at-a.ensures c.at-b.ensures c.at-c.ensures
    c.mark.ensures c.push.ensures c.push_seeing.ensures c.mark-2.ensures c.push-2.ensures

pub returns : goal.returns
returns c =
    two_laid (listed c.args.chosen.now.points) c.args.chosen.now.list.now c.args.u c.args.w c.args.v c.args.out.now c.requires.room c.at-a.ensures c.at-b.ensures c.at-c.ensures
    c.mark.ensures c.push.ensures c.push_seeing.ensures c.mark-2.ensures c.push-2.ensures c.push_seeing-2.ensures
