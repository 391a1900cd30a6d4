use Rattle.hasplight.proofs.text.hasplight_fill_triangles.Goals as goal

pub returns : goal.returns
returns c = rw c.from.ensures c.fill_triangles.ensures.fills
