mod Judging
mod Making
mod Preparing
mod Refused
mod Started
mod Streams
