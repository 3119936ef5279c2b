-- The variables of frames, by what is listed of these.
use Rattle.std.specs.Prelude.{ℕ, suc, List, [], ◌∷◌, ◌++◌, slice_index_or}
use Rattle.aud_typed.specs.Tree.{Named}
use Rattle.aud_store.specs.Ties.Extents.{Extent}
use Rattle.aud_meaning.specs.Configuration.{Frame}
use Rattle.aud_meaning.specs.Listings.{frame_lines}

-- the first of them has this depth
abbrev pub extent_lines : List (List Named) → ℕ → List Extent → List Frame → List (List ℕ)
extent_lines regions depth [] frames = []
extent_lines regions depth (e ∷ es) frames =
    frame_lines depth e.elaborated (slice_index_or regions e.region []) (slice_index_or frames e.frame [])
    ++ extent_lines regions (suc depth) es frames
