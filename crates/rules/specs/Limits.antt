-- Document 01's limits, by name.
use Rattle.std.specs.Prelude.{ℕ, ◌*◌, ◌-◌}

-- the grid is the whole numbers from -1024 to 1024
abbrev pub grid_edge : ℕ
grid_edge = 1024

-- of an outline
abbrev pub most_points : ℕ
most_points = 512

abbrev pub most_coordinates : ℕ
most_coordinates = 2 * most_points

-- what an outline of that many is cut into, and the merger's limit
abbrev pub most_triangles : ℕ
most_triangles = most_points - 2

abbrev pub most_indices : ℕ
most_indices = 3 * most_triangles
