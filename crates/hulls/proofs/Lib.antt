-- Request M-104's theorems.
pub mod Directions
pub mod Farthest
pub mod Straight
pub mod Rounds
pub mod Ends
pub mod Room
pub mod Numbers
pub mod Links
pub mod Looks
pub mod Sweeps
pub mod Starts
pub mod Same
pub mod Promise
pub mod Results
