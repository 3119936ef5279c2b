-- Which frames and calls are kept.
use Rattle.std.specs.Prelude.{ℕ, Bool, ◌||◌}
use Rattle.aud_meaning.specs.Configuration.{TaskAt, All}
use Rattle.aud_meaning.specs.Parts.{any, depends, owns, with_frames}
use Rattle.aud_code.specs.Places.{Spot}
use Rattle.aud_over.specs.Over.{calls_left, frames_left, is_named, is_served, own_names, with_kept}

-- a task that isn't terminated depends on it as a master (RM 9.3)
abbrev pub is_held : ℕ → All Spot → Bool
is_held frame c = any (λ t. depends frame t.own) c.tasks

-- a task names it, or isn't terminated and depends on it
abbrev pub keeps : ℕ → TaskAt Spot → Bool
keeps frame t = own_names frame t.own || depends frame t.own

-- a task or an object names it, or it is held; the first frame is named always
abbrev pub is_kept : ℕ → All Spot → Bool
is_kept frame c = is_named (owns c.tasks) c.shared.objects frame || is_held frame c

-- all others are without cells
abbrev pub given_back : All Spot → All Spot
given_back c = with_frames (frames_left (λ frame. is_kept frame c) 0 c.shared.frames) c

-- of all that are over only those for which a frame is open
abbrev pub calls_given_back : All Spot → All Spot
calls_given_back c = with_kept c.shared.frames (calls_left (is_served (owns c.tasks)) 0 c.shared.calls) c
