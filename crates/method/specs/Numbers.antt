-- The numbers that document 01 names.
use Rattle.std.specs.Prelude.{ℕ}

-- "4,294,967,295 means infinite"
abbrev pub infinite : ℕ
infinite = 4294967295

-- "1 to 250 is the cost of that move"
abbrev pub most_cost : ℕ
most_cost = 250

-- "N = width × height, at most 4,096"
abbrev pub most_cells : ℕ
most_cells = 4096

-- the estimate "is at most 126"
abbrev pub most_estimate : ℕ
most_estimate = 126

-- "the search number n is at most 1,000"
abbrev pub most_searches : ℕ
most_searches = 1000

-- "If the search number is 1,000, start fresh"
abbrev pub renewal : ℕ
renewal = 1000

-- "a search raises the greatest finite number by at most 250 × 4,097 = 1,024,250"
abbrev pub growth : ℕ
growth = 1024250
