-- Mentions of ids: "id outside its table | 6". What a mention is refused for stands here once for each sort; 0 is nothing. Assumes
-- nothing.
use Rattle.std.specs.Prelude.{ℕ, zero, suc, ◌*◌, ◌/◌, List, length, leb}
use Rattle.ray_tracing.specs.declared.Buffer.{Buffer}
use Rattle.ray_tracing.specs.declared.Blas.{Blas}
use Rattle.ray_tracing.specs.declared.Tlas.{Tlas}
use Rattle.ray_tracing.specs.Guard.{refuse}
use Rattle.ray_tracing.specs.Layout.{size}
use Rattle.ray_tracing.specs.Records.{buffer_at, blas_at, tlas_at}

infixr 20 ◌else◌
-- the first that refuses: 0 refuses nothing
abbrev pub ◌else◌ : ℕ → ℕ → ℕ
◌else◌ zero n = n
◌else◌ (suc m) n = suc m

-- of a record of w bytes; part of one at the table's end is none
abbrev pub mention : ℕ → List ℕ → ℕ → ℕ
mention w table id = refuse (leb (length table / w) id) 6 0

abbrev pub buffer_mention : List ℕ → ℕ → ℕ
buffer_mention = mention (size 1)

abbrev pub blas_mention : List ℕ → ℕ → ℕ
blas_mention = mention (size 2)

abbrev pub tlas_mention : List ℕ → ℕ → ℕ
tlas_mention = mention (size 4)

-- the record that an id names

abbrev pub buffer_of : List ℕ → ℕ → Buffer
buffer_of table id = buffer_at table (id * size 1)

abbrev pub blas_of : List ℕ → ℕ → Blas
blas_of table id = blas_at table (id * size 2)

abbrev pub tlas_of : List ℕ → ℕ → Tlas
tlas_of table id = tlas_at table (id * size 4)
