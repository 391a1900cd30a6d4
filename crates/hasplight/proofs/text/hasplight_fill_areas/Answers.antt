use Rattle.hasplight.proofs.text.hasplight_fill_areas.Goals as goal

pub returns : goal.returns
returns c = rw c.from.ensures c.fill_areas.ensures.fills
