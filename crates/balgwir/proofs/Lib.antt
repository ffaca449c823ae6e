mod Checks
mod Fronts
mod Lines
mod Spoken
