pub mod Openings
mod GivingUp
pub mod Fitting
pub mod Waiting
mod Reporting
pub mod Sections
mod Starting
mod Owned
mod Marked
mod Running
mod Turning
mod Counting
mod Going
mod Rising
mod Enough
mod FirstTurns
mod FewTorn
pub mod HandedOver
mod RunsIn
pub mod Placed
mod Resumed
pub mod StartsTold
pub mod Checked
