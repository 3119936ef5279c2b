-- What tasks have left to do looks at variables only through what the tasks see.
use Rattle.std.specs.Prelude.{◌≡◌, ℕ, List, length, Option}
use Rattle.aud_meaning.specs.declared.state.Pending.{Pending}
use Rattle.aud_meaning.specs.Configuration.{Frame}
use Rattle.aud_meaning.specs.Evaluation.{Sight, frame_at}
use Rattle.aud_meaning.specs.Control.{Scene, Controls}

-- these frames are as many, and the same at each level
pub record SeesSame (s : Sight) (frames : List Frame) : Type 0 where
  pub at : (level : ℕ) → frame_at s.display s.frames level ≡ frame_at s.display frames level
  pub many : length s.frames ≡ length frames

abbrev pub with_frames : List Frame → Sight → Sight
with_frames frames s = record s { frames = frames }

pub record Looks {C : Type 0} (k : Controls C) : Type 0 where
  pub coming : (pending : Option Pending) (s : Sight) (frames : List Frame) (c : C) → SeesSame s frames → k.coming pending s c ≡ k.coming pending (with_frames frames s) c
  pub asks : (pending : Option Pending) (s : Scene) (frames : List Frame) (c : C) → SeesSame s.sight frames → k.asks pending s c ≡ k.asks pending (record s { sight = with_frames frames s.sight }) c
  pub barrier : (n : ℕ) (s : Sight) (frames : List Frame) → SeesSame s frames → k.barrier n s ≡ k.barrier n (with_frames frames s)
