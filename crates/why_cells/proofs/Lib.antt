mod Gathers
mod Ways
mod Hung
mod Sliced
mod Walking
