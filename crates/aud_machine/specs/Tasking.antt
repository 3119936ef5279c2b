-- What who shows a machine has to know of its tasks.
pub use Rattle.aud_tasks.specs.Held.{hold_in, plain_hold}
pub use Rattle.aud_tasks.specs.Shown.{status_in, step_in, words_of}
pub use Rattle.aud_tasks.specs.Turning.{seen_in}
