-- What a change of one move does to the graph.
use Rattle.std.specs.Prelude.{◌≡◌, ◌⊎◌, ℕ, ◌<◌}
use Rattle.method.specs.Graph.{Graph, Comes}

-- The move from u into v, which gives v the parent code k, has the number `new` in G' where it had `old` in G. A shut move's number is above
-- every cost, and the move is then in neither list. All else is the same.
pub record Altered (G G' : Graph) (v k u old new : ℕ) : Type 0 where
  pub cells : G'.cells ≡ G.cells
  pub estimate : (a b : ℕ) → G'.estimate a b ≡ G.estimate a b
  pub earlier : (a b : ℕ) → G'.earlier a b ≡ G.earlier a b
  pub after : (s j w c : ℕ) → Comes G' s j w c → Comes G s j w c ⊎ ((s ≡ v) × (j ≡ k) × (w ≡ u) × (c ≡ new))
  pub before : (s j w c : ℕ) → Comes G s j w c → Comes G' s j w c ⊎ ((s ≡ v) × (j ≡ k) × (w ≡ u) × (c ≡ old))
  pub falls : new < old → Comes G' v k u new
  pub rises : old < new → Comes G v k u old
  pub level_after : new ≡ old → (s j w c : ℕ) → Comes G' s j w c → Comes G s j w c
  pub level_before : new ≡ old → (s j w c : ℕ) → Comes G s j w c → Comes G' s j w c
